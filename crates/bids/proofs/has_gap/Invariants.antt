-- `bids::has_gap` meets its contract. The loop's invariant: what is tested and what is left are the whole. Assumes nothing.
use mathlib.Core.Path.{◌≡◌}
use mathlib.Core.Bool.{◌||◌}
use lib.ListN.{length, drop}
use Rattle.rules.specs.Receiving.{gap}
use Rattle.bids.specs.Columns.{bids_from}
use Rattle.bids.proofs.Loops.{gap_after}
use Rattle.bids.proofs.has_gap.Given as goal

abbrev pub invariant-loop-rate : goal.invariant-loop-rate
invariant-loop-rate l = (l.found || gap_after l.ended (drop (length l.yielded) (bids_from l.fn.rates l.fn.amounts 0 10))) ≡ gap (bids_from l.fn.rates l.fn.amounts 0 10)
