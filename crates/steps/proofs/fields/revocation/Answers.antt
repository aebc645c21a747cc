-- `steps::fields::revocation` meets its contract. Assumes nothing.
use borrow.Author.Tests.{not-true, not-false}
use Rattle.steps.specs.Viewed.{viewed}
use Rattle.rules.specs.Calls.{revoke}
use Rattle.log_rules.specs.Steps.{revoked, revocation_step}
use Rattle.steps.proofs.Taking.{other_length, its_length, takes_as, takes-ended, takes_skipped, takes_called, called_by}
use Rattle.steps.proofs.fields.revocation.Goals as goal

pub returns-then-s-ne0 : goal.returns-then-s-ne0
unfolding revocation_step
returns-then-s-ne0 c =
    λ codes. let start = c in
    let a = start.args in
    takes_as (other_length 0 revoked (viewed a.standing codes a.words.now) a.s.now c.if-s-ne0.true) (takes-ended a.standing codes a.words.now a.space.now _ c.ended.ensures start.requires.ready.given)

pub returns-then-not-standing : goal.returns-then-not-standing
unfolding revocation_step
returns-then-not-standing c =
    λ codes. let start = c in
    let a = start.args in
    takes_as (its_length 0 revoked (viewed a.standing codes a.words.now) a.s.now c.if-s-ne0.false) (takes_skipped a.standing codes a.words.now a.space.now revoked start.requires.ready.given (not-true _ c.if-not-standing.true))

pub revoke_in-answer-requires : goal.revoke_in-answer-requires
revoke_in-answer-requires c = c.requires.ready.given.tender (not-false _ c.if-not-standing.false)

pub returns : goal.returns
unfolding revocation_step
returns c =
    λ codes. let start = c in
    let a = start.args in
    let ws = a.words.now in
    let done = c.revoke_in-answer in
    takes_as (its_length 0 revoked (viewed a.standing codes ws) a.s.now c.if-s-ne0.false)
    (takes_called a.standing codes ws a.space.now revoked _ _ _ start.requires.ready (not-false _ c.if-not-standing.false) (called_by revoke ws _ a.space.now _ _ done.result 3 done.ensures c.put_refusal-length.ensures))
