-- `places::places_fit` meets its contract. The loop's invariant: what is tested and what is left are the whole. Assumes nothing.
use mathlib.Core.Path.{◌≡◌}
use mathlib.Core.Bool.{◌&&◌}
use lib.ListN.{drop}
use Rattle.places.specs.Bids.{places_fit}
use Rattle.places.proofs.places_fit.Given as goal

abbrev pub invariant-loop-k : goal.invariant-loop-k
invariant-loop-k l = ((l.ok && places_fit (drop l.k l.rates) (drop l.k l.amounts)) ≡ places_fit l.rates l.amounts)
