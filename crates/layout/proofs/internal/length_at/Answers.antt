-- `layout::internal::length_at` meets its contract. Assumes nothing.
use Prim.Native.Nat.{◌+◌}
use native.Mathlib.Omega.{arith}
use Rattle.layout.proofs.Fields.{length_at_lem}
use Rattle.layout.proofs.internal.length_at.Goals as goal

pub overflow_cast-result : goal.overflow_cast-result
overflow_cast-result c = omega (arith, c.shared_slice_known-1.given (c.args.at + 1))

pub overflow_mul-result : goal.overflow_mul-result
overflow_mul-result c = omega (arith, c.shared_slice_known-1.given (c.args.at + 1))

pub overflow_cast-result-2 : goal.overflow_cast-result-2
overflow_cast-result-2 c = omega (arith, c.shared_slice_known-2-1.given (c.args.at + 2))

pub overflow_add-result-3 : goal.overflow_add-result-3
overflow_add-result-3 c = omega (arith, c.shared_slice_known-2-1.given (c.args.at + 1), c.shared_slice_known-2-1.given (c.args.at + 2))

pub returns : goal.returns
returns c =
    let a = c.args in
    (length_at_lem a.m.now a.at, omega (arith, c.shared_slice_known-2-1.given (a.at + 1), c.shared_slice_known-2-1.given (a.at + 2)))
