-- `optes::reading::optes_6g1_rate` meets its contract. Assumes nothing.
use mathlib.Core.Path.{ap}
use Rattle.places.specs.declared.Place.{Place}
use Rattle.optes.proofs.reading.optes_6g1_rate.Goals as goal

pub returns : goal.returns
returns c = ap (λ (p : Place). p.rate.0) c.place_at.ensures
