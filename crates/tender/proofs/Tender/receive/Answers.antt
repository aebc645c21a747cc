-- `tender::Tender::receive` meets its contract: what the reception comes to, with its reply. Assumes nothing.
use mathlib.Core.Path.{refl, sym, ap, subst, ◌∙◌}
use mathlib.Core.List.{List}
use Rattle.rules.specs.Receiving.{Entry}
use Rattle.rules.specs.Calls.{receive}
use Rattle.errors.specs.Listed.{listed}
use Rattle.checks.specs.Columns.{reception_of}
use Rattle.outcomes.proofs.Answering.{not_held}
use Rattle.tender.specs.declared.Received.{Received}
use Rattle.tender.specs.Viewed.{viewed}
use Rattle.tender.specs.Calls.{Receives}
use Rattle.tender.proofs.Answering.{receives-refused, receives-answered}
use Rattle.tender.proofs.Tender.receive.Goals as goal

pub put_reply-length-requires : goal.put_reply-length-requires
put_reply-length-requires c =
    let e = c.in-Ok.ensures in
    record { m_value = e.readable-told refl; n_bound = (e.few, e.roomy refl) }

pub held_in-next-requires : goal.held_in-next-requires
held_in-next-requires c = c.in-Ok.ensures.within

pub returns : goal.returns
returns c =
    let a = c.args in
    let e = c.in-Ok.ensures in
    let o = c.in-Ok.o in
    receives-answered a.self c.requires (reception_of a.m.now a.date a.time a.space.now) o.errors c.put_reply-length.result c.held_in-next.result c.put_reply-length.new.space
    (ap (λ (es : List Entry). (listed o.errors, es)) c.held_in-next.ensures.0 ∙ e.left a.space.now)
    c.held_in-next.ensures.1
    (sym (e.number a.space.now refl))
    (λ h. c.held_in-next.ensures.2 (not_held o h))
    e.few
    c.put_reply-length.ensures

pub returns-in-Err : goal.returns-in-Err
returns-in-Err c =
    let a = c.args in
    let x = reception_of a.m.now a.date a.time a.space.now in
    let u = c.unreceived.ensures in
    subst (λ (r : Received). Receives a.self (receive (viewed a.self) x) r a.space.now) (sym (λ i. record { answer = u.0 i; tender = u.1 i }))
    (receives-refused a.self c.requires x c.in-Err.refusal (c.in-Err.ensures.number a.space.now refl))
