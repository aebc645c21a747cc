-- `journal::start` meets its contract: there is no tender. Assumes nothing.
use mathlib.Core.Path.{refl}
use mathlib.Core.Bool.{false≢true}
use native.Mathlib.Omega.{arith}
use Rattle.journal.proofs.start.Goals as goal

pub returns : goal.returns
returns c = (refl, record { few = omega arith; tender = λ e. absurd (false≢true e) })
