-- `bids::is_over` meets its contract. The loop's invariant: what is found and what the rest will find are the whole, whatever
-- the rates are. Assumes nothing.
use mathlib.Core.Path.{◌≡◌}
use mathlib.Core.Bool.{◌||◌}
use mathlib.Core.List.{List}
use lib.Dec.{ltb}
use lib.ListN.{drop}
use Rattle.places.specs.declared.Rate.{Rate}
use Rattle.rules.specs.Allotment.{total}
use Rattle.bids.specs.Columns.{bids_from}
use Rattle.bids.proofs.is_over.Given as goal

abbrev pub invariant-loop-amount : goal.invariant-loop-amount
invariant-loop-amount l =
    (rates : List Rate) → (l.over || ltb l.left (total (drop l.amount-index (bids_from rates l.fn.amounts 0 10)))) ≡ ltb l.maximum.0 (total (bids_from rates l.fn.amounts 0 10))
