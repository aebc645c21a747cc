-- `journal::internal::run_in` meets its contract. The loop's invariant: the fields up to an index are taken and their lines written. Assumes nothing.
-- the call, and the loop and the turn that a later place looks back to
use Prim.Native.Nat.{◌-◌}
use lib.ListN.{length}
use Rattle.steps.specs.Viewed.{viewed}
use Rattle.journal.proofs.Logging.{Logging}
use Rattle.journal.proofs.internal.run_in.Given as goal

abbrev pub invariant-loop-standing : goal.invariant-loop-standing
invariant-loop-standing l = Logging l.input l.initial.space (viewed l.initial.standing l.initial.codes l.initial.words) l.space l.standing l.codes l.words l.at l.length

abbrev pub decreases-loop-standing : goal.decreases-loop-standing
decreases-loop-standing l = length l.input - l.at
