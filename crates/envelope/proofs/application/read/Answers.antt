-- `envelope::application::read` meets its contract. Assumes nothing.
use mathlib.Core.Path.{sym, ◌∙◌}
use Rattle.envelope.specs.Refusals.{first_holding}
use Rattle.envelope.specs.Application.{reading}
use Rattle.envelope.proofs.application.read.Goals as goal

pub fields_of-requires : goal.fields_of-requires
fields_of-requires c = sym c.is_6g1.ensures ∙ c.if-is_6g1.true

pub returns-then-is_6g1 : goal.returns-then-is_6g1
unfolding reading first_holding
returns-then-is_6g1 c = rw (sym c.is_6g1.ensures ∙ c.if-is_6g1.true, c.fields_of.ensures)

pub returns-else-is_6g1 : goal.returns-else-is_6g1
unfolding reading first_holding
returns-else-is_6g1 c = rw (sym c.is_6g1.ensures ∙ c.if-is_6g1.false)
