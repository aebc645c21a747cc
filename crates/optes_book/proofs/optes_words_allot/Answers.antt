-- `optes_book::optes_words_allot` meets its contract: no tender, refused, or allotted. Assumes nothing.
use mathlib.Core.Path.{◌≡◌, refl, sym, ◌∙◌}
use mathlib.Core.Bool.{true}
use borrow.Author.Tests.{not-true, not-false}
use Rattle.buffer.specs.Words.{is_tender}
use Rattle.optes_book.proofs.Calls.{allots_not, allots_in}
use Rattle.optes_book.proofs.optes_words_allot.Goals as goal

pub returns-then-not-is_tender : goal.returns-then-not-is_tender
returns-then-not-is_tender c =
    let a = c.args in
    allots_not a.words.now a.awards.now a.told.now (sym c.is_tender.ensures ∙ not-true _ c.if-not-is_tender.true-raw)

pub allot_in-answer-requires : goal.allot_in-answer-requires
allot_in-answer-requires c =
    let given : is_tender c.args.words.now ≡ true = sym c.is_tender.ensures ∙ not-false _ c.if-not-is_tender.false-raw in
    (given, refl)

pub returns : goal.returns
returns c =
    let given : is_tender c.args.words.now ≡ true = sym c.is_tender.ensures ∙ not-false _ c.if-not-is_tender.false-raw in
    let t = c.tell_allotment in
    let x = c in
    let l = x in
    let a = l.args in
    allots_in a.words.now a.awards.now a.told.now given x.allot_in-answer.result _ t.result _ _ t.ensures _ x.allot_in-answer.ensures
