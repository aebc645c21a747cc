-- `marginal::internal::first_reaching` meets its contract. The loop's invariant: the sum is the running total over the keys passed, and falls short of Q
-- after each of them. Assumes nothing.
use mathlib.Core.Path.{◌≡◌}
use Prim.Native.Nat.{◌-◌, ◌≤◌, ◌<◌}
use lib.ListN.{length}
use Rattle.bids.specs.Columns.{bids_in}
use Rattle.marginal.proofs.Running.{running}
use Rattle.marginal.proofs.internal.first_reaching.Given as goal

abbrev pub invariant-loop-j : goal.invariant-loop-j
invariant-loop-j l = (l.j ≤ length l.keys) × (l.sum ≡ running (bids_in l.bids) l.keys l.j) × (0 < l.j → l.sum < l.o.offered.0)

abbrev pub decreases-loop-j : goal.decreases-loop-j
decreases-loop-j l = length l.keys - l.j
