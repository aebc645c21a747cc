-- `journal::internal::standing_at_start` meets its contract: there is no tender. Assumes nothing.
use mathlib.Core.Path.{refl}
use mathlib.Core.Bool.{false≢true}
use native.Mathlib.Omega.{arith}
use Rattle.journal.proofs.internal.standing_at_start.Goals as goal

pub returns : goal.returns
returns c = λ codes words. (refl, record { few = omega arith; tender = λ e. absurd (false≢true e) })
