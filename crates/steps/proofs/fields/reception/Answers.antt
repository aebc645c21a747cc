-- `steps::fields::reception` meets its contract. Assumes nothing.
use mathlib.Core.Path.{◌≡◌, refl, sym, ap, ◌∙◌}
use mathlib.Core.List.{List}
use Prim.Native.Nat.{ℕ, ◌<◌, ◌≤◌}
use lib.ListN.{length}
use borrow.Author.Tests.{lt-ltb, le-ltb, not-true, not-false}
use Rattle.output.proofs.Output.{said}
use Rattle.buffer.specs.Words.{tender_in}
use Rattle.log_rules.specs.Lines.{refused_line}
use Rattle.log_rules.specs.Steps.{Log, ending, on_tender, received, reception_step}
use Rattle.steps.specs.Viewed.{viewed}
use Rattle.steps.proofs.Taking.{takes_as, takes-ended, takes_skipped, takes_called}
use Rattle.steps.proofs.Answered.{line_refused}
use Rattle.steps.proofs.Receiving.{message_is, line_told, left-told, line-refused, left-refused}
use Rattle.steps.proofs.fields.reception.Goals as goal

-- a field that is too short, and one that is not
ends : (s : List ℕ) (l : Log) → length s < 14 → ending l ≡ reception_step l s
unfolding reception_step
ends s l h = sym (rw (lt-ltb (length s) 14 h) refl)

calls : (s : List ℕ) (l : Log) → 14 ≤ length s → on_tender l (received s) ≡ reception_step l s
unfolding reception_step
calls s l h = sym (rw (le-ltb (length s) 14 h) refl)

pub returns-then-s-lt14 : goal.returns-then-s-lt14
returns-then-s-lt14 c =
    λ codes. let start = c in
    let a = start.args in
    takes_as (ends a.s.now (viewed a.standing codes a.words.now) c.if-s-lt14.true) (takes-ended a.standing codes a.words.now a.space.now _ c.ended.ensures start.requires.ready.given)

pub returns-then-not-opened : goal.returns-then-not-opened
returns-then-not-opened c =
    λ codes. let start = c in
    let a = start.args in
    let s = a.s.now in
    takes_as (calls s (viewed a.standing codes a.words.now) c.if-s-lt14.false) (takes_skipped a.standing codes a.words.now a.space.now (received s) start.requires.ready.given (not-true _ c.if-not-opened.true-raw))

pub outcome_in-requires : goal.outcome_in-requires
outcome_in-requires c = c.requires.ready.given.tender (not-false _ c.if-not-opened.false-raw)

pub put_answer-length-requires : goal.put_answer-length-requires
put_answer-length-requires c =
    let e = c.in-Ok.ensures.comes in
    record { m_value = λ none. e.readable-told refl; n_bound = (e.few, c.if-s-lt14.false, c.requires.in_bounds); m_value_2 = message_is c.args.s.now }

pub leave_in-requires : goal.leave_in-requires
leave_in-requires c = (c.requires.ready.given.tender (not-false _ c.if-not-opened.false-raw), c.in-Ok.ensures.comes.within)

pub returns-in-Ok : goal.returns-in-Ok
returns-in-Ok c =
    λ codes. let a = c.args in
    let s = a.s.now in
    let ws = a.words.now in
    let o = c.in-Ok in
    let line = line_told (tender_in ws) s _ c.date_of.result c.time_of.result (message_is s) c.date_of.ensures c.time_of.ensures o.outcome o.ensures.comes in
    let kept = left-told (tender_in ws) s _ c.date_of.result c.time_of.result (message_is s) c.date_of.ensures c.time_of.ensures o.outcome o.ensures.comes in
    let left = c.leave_in.ensures in
    takes_as (calls s (viewed a.standing codes ws) c.if-s-lt14.false)
    (takes_called a.standing codes ws a.space.now (received s) _ _ _ c.requires.ready (not-false _ c.if-not-opened.false-raw)
    (record { tender_is = kept ∙ sym left.tender_is; lines = said line (c.put_answer-length.ensures _); given = left.given }))

pub returns-in-Err : goal.returns-in-Err
returns-in-Err c =
    λ codes. let a = c.args in
    let s = a.s.now in
    let ws = a.words.now in
    let f = c.in-Err in
    let line = sym (line_refused _ s) ∙ line-refused (tender_in ws) s _ c.date_of.result c.time_of.result (message_is s) c.date_of.ensures c.time_of.ensures f.refusal f.ensures.comes in
    let kept = left-refused (tender_in ws) s _ c.date_of.result c.time_of.result (message_is s) c.date_of.ensures c.time_of.ensures f.refusal f.ensures.comes in
    let opened = not-false _ c.if-not-opened.false-raw in
    takes_as (calls s (viewed a.standing codes ws) c.if-s-lt14.false)
    (takes_called a.standing codes ws a.space.now (received s) _ _ _ c.requires.ready opened
    (record { tender_is = kept; lines = said line (c.put_answer-length-in-Err.ensures 0); given = c.requires.ready.given.tender opened }))
