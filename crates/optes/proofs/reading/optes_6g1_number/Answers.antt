-- `optes::reading::optes_6g1_number` meets its contract. Assumes nothing.
use mathlib.Core.Path.{ap, ◌∙◌}
use Rattle.digits.specs.Decimal.{number_in}
use Rattle.optes.proofs.reading.optes_6g1_number.Goals as goal

pub returns : goal.returns
returns c = c.unwrap_or.ensures ∙ ap number_in c.digits_at.ensures
