-- `replies::internal::put_rest` meets its contract. The loop's invariant: the errors so far are written. Assumes nothing.
use mathlib.Core.Path.{◌≡◌}
use Prim.Native.Nat.{◌+◌, ◌*◌}
use lib.ListN.{take}
use Rattle.output.specs.Output.{Wrote}
use Rattle.replies.specs.Texts.{slashed}
use Rattle.replies.proofs.internal.put_rest.Given as goal

abbrev pub invariant-loop-code : goal.invariant-loop-code
invariant-loop-code l = (l.end ≡ l.at + 10 * l.code-index) × Wrote l.initial.space l.at (slashed (take l.code-index l.codes)) l.space l.end
