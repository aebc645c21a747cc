-- `optes::reading::optes_6g1_has_number` meets its contract. Assumes nothing.
use mathlib.Core.Path.{ap, ◌∙◌}
use Rattle.digits.specs.Decimal.{is_number}
use Rattle.numbers.specs.ByNumber.{flag}
use Rattle.optes.proofs.reading.optes_6g1_has_number.Goals as goal

pub returns : goal.returns
returns c = c.flag_of.ensures ∙ ap flag (c.is_some.ensures ∙ ap is_number c.digits_at.ensures)
