-- `endings::left_at` meets its contract. The loop's invariant: from the index on as much is left as from the start. Assumes nothing.
use mathlib.Core.Path.{◌≡◌}
use Prim.Native.Nat.{◌-◌, ◌≤◌}
use lib.ListN.{length, drop}
use Rattle.endings.specs.Endings.{left_of}
use Rattle.endings.proofs.left_at.Given as goal

abbrev pub invariant-loop-end : goal.invariant-loop-end
invariant-loop-end l = (l.at ≤ length l.input) × (left_of (drop l.at l.input) ≡ left_of l.input)

abbrev pub decreases-loop-end : goal.decreases-loop-end
decreases-loop-end l = length l.input - l.at
