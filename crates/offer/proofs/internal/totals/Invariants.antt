-- `offer::internal::totals` meets its contract. The loop's invariant: both totals are added up over the bids passed. Assumes nothing.
use Rattle.rules.specs.Allotment.{is_better, is_equal}
use Rattle.bids.specs.Columns.{bids_in}
use Rattle.offer.specs.Viewed.{viewed}
use Rattle.offer.proofs.Sums.{AddedUp}
use Rattle.offer.proofs.internal.totals.Given as goal

abbrev pub invariant-loop-i : goal.invariant-loop-i
invariant-loop-i l = AddedUp (is_better (viewed l.o) l.rate.0) (bids_in l.bids) l.i l.better × AddedUp (is_equal (viewed l.o) l.rate.0) (bids_in l.bids) l.i l.equal
