-- `steps::fields::closing` meets its contract. Assumes nothing.
use mathlib.Core.Path.{ap₂, subst}
use mathlib.Core.Option.{Option}
use Prim.Native.Nat.{ℕ}
use borrow.Author.Tests.{not-true, not-false}
use Rattle.steps.specs.Viewed.{viewed}
use Rattle.rules.specs.Calls.{Tender, close}
use Rattle.buffer.specs.Words.{tender_in}
use Rattle.in_place.specs.InPlace.{ChangesIn}
use Rattle.log_rules.specs.Steps.{date_of, time_of, closed, closing_step}
use Rattle.steps.proofs.Taking.{other_length, its_length, takes_as, takes-ended, takes_skipped, takes_called, called_by}
use Rattle.steps.proofs.fields.closing.Goals as goal

pub returns-then-s-ne14 : goal.returns-then-s-ne14
unfolding closing_step
returns-then-s-ne14 c =
    λ codes. let start = c in
    let a = start.args in
    takes_as (other_length 14 (closed a.s.now) (viewed a.standing codes a.words.now) a.s.now c.if-s-ne14.true) (takes-ended a.standing codes a.words.now a.space.now _ c.ended.ensures start.requires.ready.given)

pub returns-then-not-standing : goal.returns-then-not-standing
unfolding closing_step
returns-then-not-standing c =
    λ codes. let start = c in
    let a = start.args in
    takes_as (its_length 14 (closed a.s.now) (viewed a.standing codes a.words.now) a.s.now c.if-s-ne14.false) (takes_skipped a.standing codes a.words.now a.space.now (closed a.s.now) start.requires.ready.given (not-true _ c.if-not-standing.true))

pub close_in-answer-requires : goal.close_in-answer-requires
close_in-answer-requires c = c.requires.ready.given.tender (not-false _ c.if-not-standing.false)

pub returns : goal.returns
unfolding closing_step
returns c =
    λ codes. let start = c in
    let a = start.args in
    let s = a.s.now in
    let ws = a.words.now in
    let done = c.close_in-answer in
    let change = subst (λ (x : Option ℕ × Tender). ChangesIn ws x 1 done.result done.new.words) (ap₂ (close (tender_in ws)) c.date_of.ensures c.time_of.ensures) done.ensures in
    takes_as (its_length 14 (closed s) (viewed a.standing codes ws) s c.if-s-ne14.false)
    (takes_called a.standing codes ws a.space.now (closed s) _ _ _ start.requires.ready (not-false _ c.if-not-standing.false) (called_by (λ (t : Tender). close t (date_of s) (time_of s)) ws _ a.space.now _ _ done.result 1 change c.put_refusal-length.ensures))
