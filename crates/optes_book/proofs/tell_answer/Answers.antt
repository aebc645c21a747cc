-- `optes_book::tell_answer` meets its contract. Assumes nothing.
use mathlib.Core.Path.{◌≡◌, ap, ◌∙◌}
use mathlib.Core.List.{List}
use Prim.Native.Nat.{ℕ}
use lib.ListN.{length}
use Rattle.numbers.specs.Numbers.{in_array}
use Rattle.output.proofs.Output.{said}
use Rattle.numbers.proofs.Arrays.{map_same, and_then}
use Rattle.optes_book.proofs.Calls.{answer-told}
use borrow.Author.Rules.{rules}
use Rattle.optes_book.proofs.tell_answer.Goals as goal

pub returns : goal.returns
returns c =
    let a = c.args in
    let sixteen : length a.e.codes ≡ 16 = search rules in
    let codes = rw c.as_slice.ensures.first at (said (map_same _) (c.put_each.ensures.wrote (λ m. m) (λ m j e. search rules))) in
    let all = answer-told a.e a.length c.requires sixteen (and_then (and_then c.put-count_at.ensures c.put-codes_at.ensures) codes) in
    c.put_first.ensures ∙ ap (λ (x : List ℕ). in_array x a.told.now) all
