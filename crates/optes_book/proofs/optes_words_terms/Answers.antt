-- `optes_book::optes_words_terms` meets its contract. Assumes nothing.
use mathlib.Core.Path.{◌≡◌, sym, ◌∙◌}
use mathlib.Core.Bool.{true}
use mathlib.Core.List.{List}
use Prim.Native.Nat.{ℕ}
use borrow.Author.Tests.{not-true, not-false}
use Rattle.numbers.specs.Numbers.{in_array}
use Rattle.buffer.specs.Words.{is_tender, terms_in, terms_numbers}
use Rattle.buffer.proofs.Words.{known}
use Rattle.optes_book.proofs.Calls.{told_not, told-all}
use Rattle.optes_book.proofs.optes_words_terms.Goals as goal

pub returns-then-not-is_tender : goal.returns-then-not-is_tender
returns-then-not-is_tender c =
    let a = c.args in
    told_not a.words.now {A = ℕ × List ℕ} (0, in_array (terms_numbers (terms_in a.words.now)) a.told.now) (100, a.told.now) (sym c.is_tender.ensures ∙ not-true _ c.if-not-is_tender.true-raw)

pub tell_terms-requires : goal.tell_terms-requires
tell_terms-requires c =
    let given : is_tender c.args.words.now ≡ true = sym c.is_tender.ensures ∙ not-false _ c.if-not-is_tender.false-raw in
    (known _ given).long

pub returns : goal.returns
returns c =
    let given : is_tender c.args.words.now ≡ true = sym c.is_tender.ensures ∙ not-false _ c.if-not-is_tender.false-raw in
    let t = c in
    let l = t in
    let a = l.args in
    (λ i. (0, t.tell_terms.ensures i)) ∙ told-all a.words.now {A = ℕ × List ℕ} (0, in_array (terms_numbers (terms_in a.words.now)) a.told.now) (100, a.told.now) given
