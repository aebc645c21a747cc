-- `dropping::internal::drop_below` meets its contract. The loop's invariant: the first awards are as they are given, and their dropped cents with those
-- of the others are all. Assumes nothing.
use mathlib.Core.Path.{refl}
use native.Mathlib.Omega.{arith}
use Rattle.dropping.proofs.Dropping.{dropped_within, dropped_more, dropped_all}
use Rattle.dropping.proofs.internal.drop_below.Goals as goal

pub loop-award-init : goal.loop-award-init
loop-award-init c = record { filled = (refl, refl); counted = omega arith }

pub overflow_add-dropped : goal.overflow_add-dropped
overflow_add-dropped c =
    let start = c in
    let l = c.loop-award in
    let given = c.given_award-given in
    omega (
      arith,
      start.requires,
      dropped_within start.args.minimum.0 start.args.awards.now l.awards l.dropped l.award-index l.invariant (omega arith) _ given.result refl given.ensures.0 given.ensures.1,
    )

pub loop-award-preserved : goal.loop-award-preserved
loop-award-preserved c =
    let start = c in
    let l = c.loop-award in
    let given = c.given_award-given in
    dropped_more start.args.minimum.0 start.args.awards.now l.awards l.dropped l.award-index l.invariant (omega arith) _ given.result refl given.ensures.0 given.ensures.1

pub shape_of-awards : goal.shape_of-awards
shape_of-awards c = c.loop-award.invariant.filled.0

pub returns : goal.returns
returns c =
    let l = c.loop-award in
    dropped_all _ _ l.awards l.dropped l.award-index l.invariant (omega arith)
