-- `tender::open` meets its contract. Assumes nothing.
use Rattle.rules.specs.Opening.{admitting}
use Rattle.tender.proofs.Opening.{opens, opens-nothing}
use Rattle.tender.proofs.open.Goals as goal

pub returns-in-Ok : goal.returns-in-Ok
returns-in-Ok c =
    let a = c.args in
    opens a.m.now (admitting a.codes.now a.limits.now) c.in-Ok.terms c.in-Ok.ensures c.new_book-book.result c.new_book-book.ensures.0 c.new_book-book.ensures.1

pub returns-in-Err : goal.returns-in-Err
returns-in-Err c =
    let a = c.args in
    let b = c.new_book-book-in-Err in
    opens-nothing a.m.now (admitting a.codes.now a.limits.now) c.in-Err.refusal c.in-Err.ensures.number c.no_terms-terms.result c.no_terms-terms.ensures b.result b.ensures.0 b.ensures.1
