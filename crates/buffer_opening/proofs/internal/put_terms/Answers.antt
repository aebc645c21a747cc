-- `buffer_opening::internal::put_terms` meets its contract. Assumes nothing.
use borrow.Author.Rules.{rules}
use mathlib.Core.Path.{◌≡◌}
use Prim.Native.Nat.{ℕ, ◌≤◌, ◌<◌}
use native.Mathlib.Omega.{arith}
use lib.ListN.{length, get_or}
use Rattle.output.proofs.Output.{then, said}
use Rattle.numbers.proofs.Arrays.{map_same}
use Rattle.buffer.specs.Words.{low32}
use Rattle.buffer_opening.proofs.Writing.{bytes_same, terms-joined, length-terms}
use Rattle.buffer_opening.proofs.internal.put_terms.Goals as goal

pub returns : goal.returns
returns c =
    let identifier-length : length c.args.terms.identifier ≡ 11 = search rules in
    let each_byte : (i : ℕ) → get_or c.args.terms.identifier i 0 < 256 = λ i. search rules in
    let limit_fits : c.args.terms.limit.0 < 4294967296 = search rules in
    let limit_bits : low32 c.args.terms.limit.0 ≡ c.args.terms.limit.0 = omega (arith, limit_fits) in
    let t = c.args.terms in
    let at : c.args.at ≤ length c.args.words.now = omega (arith, c.requires) in
    let bytes = said (map_same t.identifier) (c.put_each-side_at.ensures.wrote (λ n. n) (λ n k e. search rules)) in
    let w =
    said (terms-joined t _ _ c.side_number.ensures c.from.ensures)
    (then at (then at (then at (then at bytes c.put-dates_at.ensures) c.put_three-amounts_at.ensures) c.put_three-limits_at.ensures) c.put_three.ensures)
    in
    let l = length-terms t identifier-length in
    (w, omega (arith, l, w.past), record { identifier-bytes = bytes_same t.identifier each_byte; limit_bits = limit_bits })
