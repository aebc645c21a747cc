-- `places::internal::read_places` meets its contract. The loop's invariant: the first k entries of each array are those of the first k places. Assumes nothing.
use mathlib.Core.Path.{◌≡◌}
use mathlib.Core.List.{map, ◌++◌}
use lib.ListN.{take, drop}
use Rattle.places.specs.declared.Place.{Place}
use Rattle.places.specs.Bids.{places_in}
use Rattle.places.proofs.internal.read_places.Given as goal

abbrev pub invariant-loop-k : goal.invariant-loop-k
invariant-loop-k l =
    (l.formed ≡ take l.k (map (λ (p : Place). p.formed) (places_in 10 l.s)) ++ drop l.k l.initial.formed)
    × (l.rates ≡ take l.k (map (λ (p : Place). p.rate) (places_in 10 l.s)) ++ drop l.k l.initial.rates)
    × (l.amounts ≡ take l.k (map (λ (p : Place). p.amount) (places_in 10 l.s)) ++ drop l.k l.initial.amounts)
