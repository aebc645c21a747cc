-- `checks::internal::all_formed` meets its contract. The loop's invariant: what is tested and what is left are the whole. Assumes nothing.
use mathlib.Core.Path.{◌≡◌}
use mathlib.Core.Bool.{◌&&◌}
use lib.ListN.{drop}
use Rattle.places.specs.Bids.{all_formed}
use Rattle.checks.proofs.internal.all_formed.Given as goal

abbrev pub invariant-loop-place_formed : goal.invariant-loop-place_formed
invariant-loop-place_formed l = (l.ok && all_formed (drop l.place_formed-index l.place_formed-items)) ≡ all_formed l.fn.formed
