-- `optes_book::optes_words_receive` meets its contract: no tender, refused, or answered. Assumes nothing.
use Rattle.std.specs.Prelude.{Ok, Err}
use mathlib.Core.Path.{◌≡◌, refl, sym, ◌∙◌}
use mathlib.Core.Bool.{true}
use borrow.Author.Tests.{not-true, not-false}
use Rattle.errors.specs.Listed.{listed}
use Rattle.buffer.specs.Words.{is_tender}
use Rattle.optes_book.proofs.Calls.{receives_not, receives_in, zero_answered, numbers-answered}
use Rattle.optes_book.proofs.optes_words_receive.Goals as goal

pub returns-then-not-is_tender : goal.returns-then-not-is_tender
returns-then-not-is_tender c =
    let a = c.args in
    receives_not a.words.now a.m.now a.date a.time a.space.now a.told.now (sym c.is_tender.ensures ∙ not-true _ c.if-not-is_tender.true-raw)

pub receive_in-requires : goal.receive_in-requires
receive_in-requires c =
    let given : is_tender c.args.words.now ≡ true = sym c.is_tender.ensures ∙ not-false _ c.if-not-is_tender.false-raw in
    given

pub tell_answer-requires : goal.tell_answer-requires
tell_answer-requires c = c.in-Ok.ensures.answers.few

pub returns-in-Ok : goal.returns-in-Ok
returns-in-Ok c =
    let given : is_tender c.args.words.now ≡ true = sym c.is_tender.ensures ∙ not-false _ c.if-not-is_tender.false-raw in
    let a = c.args in
    let r = c.in-Ok.reply in
    receives_in a.words.now a.m.now a.date a.time a.space.now a.told.now given (Ok r) _ _ c.in-Ok.ensures 0 _
    (zero_answered (listed r.errors) r.length)
    (c.tell_answer.ensures ∙ numbers-answered (listed r.errors) r.length a.told.now)

pub returns-in-Err : goal.returns-in-Err
returns-in-Err c =
    let given : is_tender c.args.words.now ≡ true = sym c.is_tender.ensures ∙ not-false _ c.if-not-is_tender.false-raw in
    let a = c.args in
    receives_in a.words.now a.m.now a.date a.time a.space.now a.told.now given (Err c.in-Err.refusal) _ _ c.in-Err.ensures c.number_of.result a.told.now c.number_of.ensures refl
