-- `envelope::application::bytes` meets its contract. Assumes nothing.
use mathlib.Core.Path.{sym, ◌∙◌}
use Rattle.envelope.specs.Application.{field_bytes}
use Rattle.envelope.proofs.application.bytes.Goals as goal

pub bytes_in-requires : goal.bytes_in-requires
bytes_in-requires c = sym c.is_6g1.ensures ∙ c.if-is_6g1.true

pub returns-then-is_6g1 : goal.returns-then-is_6g1
unfolding field_bytes
returns-then-is_6g1 c = rw (sym c.is_6g1.ensures ∙ c.if-is_6g1.true) c.bytes_in.ensures.0

pub returns-else-is_6g1 : goal.returns-else-is_6g1
unfolding field_bytes
returns-else-is_6g1 c = rw (sym c.is_6g1.ensures ∙ c.if-is_6g1.false)
