-- `optes::reading::optes_6g1_read` meets its contract. Assumes nothing.
use mathlib.Core.Path.{sym, ◌∙◌}
use Rattle.envelope.specs.Refusals.{first_holding}
use Rattle.optes.proofs.reading.optes_6g1_read.Goals as goal

pub returns-then-is_6g1 : goal.returns-then-is_6g1
unfolding first_holding
returns-then-is_6g1 c = rw (sym c.is_6g1.ensures ∙ c.if-is_6g1.true)

pub returns-else-is_6g1 : goal.returns-else-is_6g1
unfolding first_holding
returns-else-is_6g1 c = rw (sym c.is_6g1.ensures ∙ c.if-is_6g1.false)
