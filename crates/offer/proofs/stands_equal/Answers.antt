-- `offer::stands_equal` meets its contract. Assumes nothing.
use mathlib.Core.Path.{ap}
use mathlib.Core.Bool.{Bool, ◌&&◌}
use lib.Dec.{eqb}
use Rattle.rules.specs.Allotment.{is_equal}
use Rattle.offer.proofs.stands_equal.Goals as goal

pub returns : goal.returns
unfolding is_equal
returns c = ap (λ (x : Bool). x && eqb c.args.b.rate.0 c.args.rate.0) c.is_in.ensures
