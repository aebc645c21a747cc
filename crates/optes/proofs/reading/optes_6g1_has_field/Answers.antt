-- `optes::reading::optes_6g1_has_field` meets its contract. Assumes nothing.
use mathlib.Core.Path.{ap, ◌∙◌}
use Rattle.numbers.specs.ByNumber.{flag}
use Rattle.optes.proofs.reading.optes_6g1_has_field.Goals as goal

pub returns : goal.returns
returns c = c.flag_of.ensures ∙ ap flag c.field_there.ensures
