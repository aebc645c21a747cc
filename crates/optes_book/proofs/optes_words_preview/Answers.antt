-- `optes_book::optes_words_preview` meets its contract: no tender, refused, or previewed. Assumes nothing.
use mathlib.Core.Path.{◌≡◌, refl, sym, ◌∙◌}
use mathlib.Core.Bool.{true}
use borrow.Author.Tests.{not-true, not-false}
use Rattle.buffer.specs.Words.{is_tender}
use Rattle.optes_book.proofs.Calls.{previews_not, previews_in}
use Rattle.optes_book.proofs.optes_words_preview.Goals as goal

pub returns-then-not-is_tender : goal.returns-then-not-is_tender
returns-then-not-is_tender c =
    let a = c.args in
    previews_not a.words.now a.awards.now a.told.now (sym c.is_tender.ensures ∙ not-true _ c.if-not-is_tender.true-raw)

pub preview_in-answer-requires : goal.preview_in-answer-requires
preview_in-answer-requires c =
    let given : is_tender c.args.words.now ≡ true = sym c.is_tender.ensures ∙ not-false _ c.if-not-is_tender.false-raw in
    (given, refl)

pub returns : goal.returns
returns c =
    let given : is_tender c.args.words.now ≡ true = sym c.is_tender.ensures ∙ not-false _ c.if-not-is_tender.false-raw in
    let t = c.tell_allotment in
    let x = c in
    let l = x in
    let a = l.args in
    previews_in a.words.now a.awards.now a.told.now given x.preview_in-answer.result _ t.result _ _ t.ensures x.preview_in-answer.ensures
