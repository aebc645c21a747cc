-- `offer::is_in` meets its contract. Assumes nothing.
use mathlib.Core.Path.{ap₂}
use mathlib.Core.Bool.{Bool, ◌&&◌, not}
use Rattle.rules.specs.Allotment.{is_in}
use Rattle.offer.proofs.is_in.Goals as goal

pub returns : goal.returns
unfolding is_in
returns c = ap₂ (λ (x y : Bool). x && not y) c.is_filled.ensures c.is_better.ensures
