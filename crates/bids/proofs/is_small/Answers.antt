-- `bids::is_small` meets its contract. Assumes nothing.
use mathlib.Core.Path.{refl}
use Rattle.rules.specs.Receiving.{small_bid}
use Rattle.bids.proofs.is_small.Goals as goal

pub returns : goal.returns
unfolding small_bid
returns c = rw c.is_filled.ensures refl
