-- `offer::stands_better` meets its contract. Assumes nothing.
use mathlib.Core.Path.{ap₂}
use mathlib.Core.Bool.{Bool, ◌&&◌}
use Rattle.rules.specs.Allotment.{is_better}
use Rattle.offer.proofs.stands_better.Goals as goal

pub returns : goal.returns
unfolding is_better
returns c = ap₂ (λ (x y : Bool). x && y) c.is_in.ensures c.is_better.ensures
