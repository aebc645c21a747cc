-- `terms::numbers_impossible` meets its contract. Assumes nothing.
use mathlib.Core.Path.{refl}
use Rattle.rules.specs.Opening.{impossible}
use Rattle.terms.proofs.numbers_impossible.Goals as goal

pub returns : goal.returns
unfolding impossible
returns c = refl
