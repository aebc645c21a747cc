-- `optes_book::optes_words_codes` meets its contract. Assumes nothing.
use mathlib.Core.Path.{◌≡◌, sym, ◌∙◌}
use mathlib.Core.Bool.{true}
use mathlib.Core.List.{List}
use Prim.Native.Nat.{ℕ}
use borrow.Author.Tests.{not-true, not-false}
use Rattle.numbers.specs.Numbers.{in_array}
use Rattle.buffer.specs.Words.{tender_in, is_tender}
use Rattle.buffer_questions.specs.Told.{counted_numbers}
use Rattle.optes_book.proofs.Calls.{told_not, told-all}
use Rattle.optes_book.proofs.optes_words_codes.Goals as goal

pub returns-then-not-is_tender : goal.returns-then-not-is_tender
returns-then-not-is_tender c =
    let a = c.args in
    told_not a.words.now {A = ℕ × List ℕ} (0, in_array (counted_numbers (tender_in a.words.now).terms.admission.codes) a.told.now) (100, a.told.now) (sym c.is_tender.ensures ∙ not-true _ c.if-not-is_tender.true-raw)

pub tell_codes-requires : goal.tell_codes-requires
tell_codes-requires c =
    let given : is_tender c.args.words.now ≡ true = sym c.is_tender.ensures ∙ not-false _ c.if-not-is_tender.false-raw in
    given

pub returns : goal.returns
returns c =
    let given : is_tender c.args.words.now ≡ true = sym c.is_tender.ensures ∙ not-false _ c.if-not-is_tender.false-raw in
    let t = c in
    let l = t in
    let a = l.args in
    (λ i. (0, t.tell_codes.ensures i)) ∙ told-all a.words.now {A = ℕ × List ℕ} (0, in_array (counted_numbers (tender_in a.words.now).terms.admission.codes) a.told.now) (100, a.told.now) given
