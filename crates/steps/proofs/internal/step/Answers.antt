-- `steps::internal::step` meets its contract. Assumes nothing.
use mathlib.Core.Path.{refl}
use borrow.Author.Tests.{ne_eqb}
use Rattle.steps.specs.Viewed.{viewed}
use Rattle.steps.proofs.Taking.{stepped, takes_as, takes-ended}
use Rattle.steps.proofs.internal.step.Goals as goal

pub returns-in-160 : goal.returns-in-160
returns-in-160 c =
    let start = c in
    let a = start.args in
    takes_as (stepped (viewed a.standing a.codes.now a.words.now) a.tag a.s.now start.requires.ready.unended _ (rw c.in-160.is refl)) (c.admission.ensures a.words.now a.space.now start.requires.ready.given)

pub returns-in-161 : goal.returns-in-161
returns-in-161 c =
    let start = c in
    let a = start.args in
    takes_as (stepped (viewed a.standing a.codes.now a.words.now) a.tag a.s.now start.requires.ready.unended _ (rw c.in-161.is refl)) c.announcement.ensures

pub returns-in-162 : goal.returns-in-162
returns-in-162 c =
    let start = c in
    let a = start.args in
    takes_as (stepped (viewed a.standing a.codes.now a.words.now) a.tag a.s.now start.requires.ready.unended _ (rw c.in-162.is refl)) (c.reception.ensures a.codes.now)

pub returns-in-163 : goal.returns-in-163
returns-in-163 c =
    let start = c in
    let a = start.args in
    takes_as (stepped (viewed a.standing a.codes.now a.words.now) a.tag a.s.now start.requires.ready.unended _ (rw c.in-163.is refl)) (c.closing.ensures a.codes.now)

pub returns-in-164 : goal.returns-in-164
returns-in-164 c =
    let start = c in
    let a = start.args in
    takes_as (stepped (viewed a.standing a.codes.now a.words.now) a.tag a.s.now start.requires.ready.unended _ (rw c.in-164.is refl)) (c.revocation.ensures a.codes.now)

pub returns-in-165 : goal.returns-in-165
returns-in-165 c =
    let start = c in
    let a = start.args in
    takes_as (stepped (viewed a.standing a.codes.now a.words.now) a.tag a.s.now start.requires.ready.unended _ (rw c.in-165.is refl)) (c.allotting.ensures a.codes.now)

pub returns-in_default : goal.returns-in_default
returns-in_default c =
    let start = c in
    let a = start.args in
    let rest = c.in_default.in_default-own.rest in
    takes_as
    (stepped (viewed a.standing a.codes.now a.words.now) a.tag a.s.now start.requires.ready.unended _
    (rw (ne_eqb a.tag 160 rest.0.0.0.0.0.1, ne_eqb a.tag 161 rest.0.0.0.0.1, ne_eqb a.tag 162 rest.0.0.0.1, ne_eqb a.tag 163 rest.0.0.1, ne_eqb a.tag 164 rest.0.1, ne_eqb a.tag 165 rest.1) refl))
    (takes-ended a.standing a.codes.now a.words.now a.space.now _ c.ended.ensures start.requires.ready.given)
