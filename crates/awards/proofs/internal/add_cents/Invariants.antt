-- `awards::internal::add_cents` meets its contract. The loop's invariant: the first awards have their cents, and the bids at the last rate passed
-- have taken theirs from the cents left. Assumes nothing.
use Rattle.bids.specs.Columns.{bids_in}
use Rattle.offer.specs.Viewed.{viewed}
use Rattle.awards.proofs.Loops.{CentsTo}
use Rattle.awards.proofs.internal.add_cents.Given as goal

abbrev pub invariant-loop-i : goal.invariant-loop-i
invariant-loop-i l = CentsTo (viewed l.o) l.last.0 l.cents (bids_in l.bids) l.initial.awards l.awards l.left l.i
