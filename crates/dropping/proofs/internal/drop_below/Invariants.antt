-- `dropping::internal::drop_below` meets its contract. The loop's invariant: the first awards are as they are given, and their dropped cents with those
-- of the others are all. Assumes nothing.
use Rattle.dropping.proofs.Dropping.{DroppedTo}
use Rattle.dropping.proofs.internal.drop_below.Given as goal

abbrev pub invariant-loop-award : goal.invariant-loop-award
invariant-loop-award l = DroppedTo l.minimum.0 l.initial.awards l.awards l.dropped l.award-index
