-- `bids::any_place` meets its contract. The loop's invariant: what is asked and what is left are the whole. Assumes nothing.
use mathlib.Core.Path.{◌≡◌}
use mathlib.Core.Bool.{Bool, ◌||◌}
use lib.ListN.{length, drop}
use Rattle.rules.specs.Allotment as rules
use Rattle.rules.specs.Opening.{any}
use Rattle.bids.specs.declared.Bid.{Bid}
use Rattle.bids.specs.Columns.{viewed, bids_from}
use Rattle.bids.proofs.any_place.Given as goal

abbrev pub invariant-loop-rate : goal.invariant-loop-rate
invariant-loop-rate g l =
    (has_fault : rules.Bid → Bool) → ((b : Bid) (told : Bool) → goal.F-post g l.has_fault b told → told ≡ has_fault (viewed b))
    → (l.found || any has_fault (drop (length l.yielded) (bids_from l.fn.rates l.fn.amounts 0 10))) ≡ any has_fault (bids_from l.fn.rates l.fn.amounts 0 10)
