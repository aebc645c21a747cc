-- `bids::rest` meets its contract. Assumes nothing.
use mathlib.Core.Path.{refl}
use native.Mathlib.Nat.{mod-zero}
use Rattle.bids.proofs.rest.Goals as goal

pub returns-then-step-eq0 : goal.returns-then-step-eq0
returns-then-step-eq0 c = rw (c.if-step-eq0.true, mod-zero) refl
