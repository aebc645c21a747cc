-- `optes::reading::optes_6g1_has_place` meets its contract. Assumes nothing.
use mathlib.Core.Path.{ap, ◌∙◌}
use Rattle.places.specs.declared.Place.{Place}
use Rattle.numbers.specs.ByNumber.{flag}
use Rattle.optes.proofs.reading.optes_6g1_has_place.Goals as goal

pub returns : goal.returns
returns c = c.flag_of.ensures ∙ ap (λ (p : Place). flag p.formed) c.place_at.ensures
