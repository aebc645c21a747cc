-- `buffer_opening::internal::open_in` meets its contract. Assumes nothing.
use Rattle.rules.specs.Opening.{admitting}
use Rattle.buffer_opening.proofs.Opening.{opens, opens-nothing, few, few-limits}
use Rattle.buffer_opening.proofs.internal.open_in.Goals as goal

pub put_tender-requires : goal.put_tender-requires
put_tender-requires c =
    let a = c.args in
    let admission = admitting a.codes.now a.limits.now in
    let o = c.in-Ok in
    (c.requires, few a.m.now admission o.terms o.ensures, few-limits a.m.now admission o.terms o.ensures)

pub returns-in-Ok : goal.returns-in-Ok
returns-in-Ok c =
    let a = c.args in
    let o = c.in-Ok in
    let p = c.put_tender in
    opens a.m.now (admitting a.codes.now a.limits.now) o.terms o.ensures a.words.now _ _ p.ensures.2 p.ensures.0 p.ensures.1

pub returns-in-Err : goal.returns-in-Err
returns-in-Err c =
    let a = c.args in
    opens-nothing a.m.now (admitting a.codes.now a.limits.now) a.words.now c.in-Err.refusal c.in-Err.ensures.number
