-- `buffer_opening::internal::put_limits` meets its contract. Assumes nothing.
use Prim.Native.Nat.{ℕ, ◌-◌}
use borrow.Author.Rules.{rules}
use native.Mathlib.Omega.{arith}
use lib.ListN.{length, length-replicate}
use Rattle.output.proofs.Output.{then, said}
use Rattle.numbers.proofs.Arrays.{map_same}
use Rattle.buffer_opening.proofs.internal.put_limits.Goals as goal

pub returns : goal.returns
returns c =
    let limits = c.args.limits.now in
    let written = said (map_same limits) (c.put_each-free_at.ensures.wrote (λ n. n) (λ n k e. search rules)) in
    let zeros = c.put_zeros.ensures in
    (then (let room = c.requires.0 in omega arith) written zeros, omega (arith, written.past, zeros.past, length-replicate {A = ℕ} (64 - length limits) 0, c.requires.1))
