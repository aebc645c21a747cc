-- `optes_book::optes_words_close` meets its contract. Assumes nothing.
use Rattle.std.specs.Prelude.{Ok, Err}
use mathlib.Core.Path.{◌≡◌, refl, sym, ◌∙◌}
use mathlib.Core.Bool.{true}
use borrow.Author.Tests.{not-true, not-false}
use Rattle.rules.specs.Calls.{close}
use Rattle.buffer.specs.Words.{is_tender, tender_in}
use Rattle.optes_book.proofs.Calls.{changes_not, changes_in}
use Rattle.optes_book.proofs.optes_words_close.Goals as goal

pub returns-then-not-is_tender : goal.returns-then-not-is_tender
returns-then-not-is_tender c =
    let a = c.args in
    let ws = a.words.now in
    changes_not ws (close (tender_in ws) a.date a.time) 1 (sym c.is_tender.ensures ∙ not-true _ c.if-not-is_tender.true-raw)

pub close_in-requires : goal.close_in-requires
close_in-requires c =
    let given : is_tender c.args.words.now ≡ true = sym c.is_tender.ensures ∙ not-false _ c.if-not-is_tender.false-raw in
    given

pub returns-in-Ok : goal.returns-in-Ok
returns-in-Ok c =
    let given : is_tender c.args.words.now ≡ true = sym c.is_tender.ensures ∙ not-false _ c.if-not-is_tender.false-raw in
    let a = c.args in
    changes_in a.words.now (close (tender_in a.words.now) a.date a.time) 1 given (Ok tt) 0 _ c.in-Ok.ensures refl

pub returns-in-Err : goal.returns-in-Err
returns-in-Err c =
    let given : is_tender c.args.words.now ≡ true = sym c.is_tender.ensures ∙ not-false _ c.if-not-is_tender.false-raw in
    let a = c.args in
    changes_in a.words.now (close (tender_in a.words.now) a.date a.time) 1 given (Err c.in-Err.refusal) c.number_of.result _ c.in-Err.ensures c.number_of.ensures
