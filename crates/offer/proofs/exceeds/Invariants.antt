-- `offer::exceeds` meets its contract. The loop's invariant: what is found and what the rest will find are the whole. Assumes nothing.
use mathlib.Core.Path.{◌≡◌}
use mathlib.Core.Bool.{◌||◌}
use lib.Dec.{ltb}
use lib.ListN.{drop}
use Rattle.rules.specs.Allotment.{sum}
use Rattle.offer.specs.Viewed.{most_bids}
use Rattle.offer.proofs.exceeds.Given as goal

abbrev pub invariant-loop-amount : goal.invariant-loop-amount
invariant-loop-amount l = (l.over || ltb l.left (sum (drop l.amount-index l.amounts))) ≡ ltb most_bids (sum l.amounts)
