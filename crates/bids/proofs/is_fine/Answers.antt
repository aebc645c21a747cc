-- `bids::is_fine` meets its contract. Assumes nothing.
use mathlib.Core.Path.{refl}
use Rattle.rules.specs.Receiving.{fine_rate}
use Rattle.bids.proofs.is_fine.Goals as goal

pub returns : goal.returns
unfolding fine_rate
returns c = refl
