-- `steps::fields::allotting` meets its contract. Assumes nothing.
use borrow.Author.Tests.{not-true, not-false}
use Rattle.steps.specs.Viewed.{viewed}
use Rattle.log_rules.specs.Steps.{allotted, allotting_step}
use Rattle.steps.proofs.Taking.{other_length, its_length, takes_as, takes-ended, takes_skipped, takes_called}
use Rattle.steps.proofs.fields.allotting.Goals as goal

pub returns-then-s-ne0 : goal.returns-then-s-ne0
unfolding allotting_step
returns-then-s-ne0 c =
    λ codes. let start = c in
    let a = start.args in
    takes_as (other_length 0 allotted (viewed a.standing codes a.words.now) a.s.now c.if-s-ne0.true) (takes-ended a.standing codes a.words.now a.space.now _ c.ended.ensures start.requires.ready.given)

pub returns-then-not-standing : goal.returns-then-not-standing
unfolding allotting_step
returns-then-not-standing c =
    λ codes. let start = c in
    let a = start.args in
    takes_as (its_length 0 allotted (viewed a.standing codes a.words.now) a.s.now c.if-s-ne0.false) (takes_skipped a.standing codes a.words.now a.space.now allotted start.requires.ready.given (not-true _ c.if-not-standing.true))

pub put_allotment-length-requires : goal.put_allotment-length-requires
put_allotment-length-requires c = (c.requires.ready.given.tender (not-false _ c.if-not-standing.false), c.requires.in_bounds)

pub returns : goal.returns
unfolding allotting_step
returns c =
    λ codes. let start = c in
    let a = start.args in
    let ws = a.words.now in
    takes_as (its_length 0 allotted (viewed a.standing codes ws) a.s.now c.if-s-ne0.false)
    (takes_called a.standing codes ws a.space.now allotted _ _ _ start.requires.ready (not-false _ c.if-not-standing.false) c.put_allotment-length.ensures)
