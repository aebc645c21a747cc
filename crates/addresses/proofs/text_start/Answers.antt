-- `addresses::text_start` meets its contract. Assumes nothing.
use mathlib.Core.Path.{refl}
use Rattle.addresses.proofs.text_start.Goals as goal

pub returns : goal.returns
returns c = refl
