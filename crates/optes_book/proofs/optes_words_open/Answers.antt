-- `optes_book::optes_words_open` meets its contract. Assumes nothing.
use Rattle.std.specs.Prelude.{Ok, Err}
use mathlib.Core.Path.{refl}
use borrow.Author.Tests.{lt-leb, le-leb}
use Rattle.rules.specs.Opening.{admitting}
use Rattle.optes_book.proofs.Calls.{opens_short, opens_in}
use Rattle.optes_book.proofs.optes_words_open.Goals as goal

pub returns-then-words-lt1560 : goal.returns-then-words-lt1560
returns-then-words-lt1560 c =
    let a = c.args in
    opens_short a.words.now a.m.now (admitting a.codes.now a.limits.now) (lt-leb _ _ c.if-words-lt1560.true)

pub returns-in-Ok : goal.returns-in-Ok
returns-in-Ok c =
    let a = c.args in
    opens_in a.words.now a.m.now (admitting a.codes.now a.limits.now) (le-leb _ _ c.if-words-lt1560.false) (Ok tt) 0 _ c.in-Ok.ensures refl

pub returns-in-Err : goal.returns-in-Err
returns-in-Err c =
    let a = c.args in
    opens_in a.words.now a.m.now (admitting a.codes.now a.limits.now) (le-leb _ _ c.if-words-lt1560.false) (Err c.in-Err.refusal) c.number_of.result _ c.in-Err.ensures c.number_of.ensures
