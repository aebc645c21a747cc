-- `buffer_opening::internal::put_tender` meets its contract. Assumes nothing.
use Prim.Native.Nat.{ℕ, ◌-◌}
use borrow.Author.Rules.{rules}
use native.Mathlib.Omega.{arith}
use lib.ListN.{length, length-replicate}
use Rattle.output.proofs.Output.{said}
use Rattle.numbers.proofs.Arrays.{map_same, and_then}
use Rattle.buffer_opening.specs.Opening.{opened_numbers}
use Rattle.buffer_opening.proofs.internal.put_tender.Goals as goal

pub put_limits-requires : goal.put_limits-requires
put_limits-requires c =
    let zeros = length-replicate {A = ℕ} (1472 - length c.args.codes.now) 0 in
    (omega (arith, zeros), c.requires.2)

pub returns : goal.returns
unfolding opened_numbers
returns c =
    let codes = c.args.codes.now in
    let head = c.put_three-terms_at.ensures in
    let terms = c.put_terms-codes_at.ensures in
    let admitted = said (map_same codes) (c.put_each-free_at.ensures.wrote (λ n. n) (λ n k e. search rules)) in
    let zeros = c.put_zeros-limits_at.ensures in
    let limits = c.put_limits.ensures in
    let written = and_then (and_then (and_then (and_then head terms.0) admitted) zeros) limits.0 in
    (written, omega (arith, limits.1, zeros.past, length-replicate {A = ℕ} (1472 - length codes) 0, admitted.past, terms.1, head.past, c.requires.1), terms.2)
