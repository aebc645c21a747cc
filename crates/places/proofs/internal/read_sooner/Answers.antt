-- `places::internal::read_sooner` meets its contract. Assumes nothing.
use mathlib.Core.Path.{sym}
use Rattle.places.proofs.internal.read_sooner.Goals as goal

pub returns-then-is_empty : goal.returns-then-is_empty
returns-then-is_empty c = sym (c.is_empty.ensures c.if-is_empty.true)
