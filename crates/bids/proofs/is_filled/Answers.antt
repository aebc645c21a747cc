-- `bids::is_filled` meets its contract. Assumes nothing.
use mathlib.Core.Path.{refl}
use Rattle.rules.specs.Allotment.{filled}
use Rattle.bids.proofs.is_filled.Goals as goal

pub returns : goal.returns
unfolding filled
returns c = refl
