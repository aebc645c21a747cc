-- `marginal::internal::keys_in` meets its contract. The loop's invariant: the first n keys are those of the bids in among the bids passed. Assumes nothing.
use mathlib.Core.Path.{◌≡◌}
use Prim.Native.Nat.{◌≤◌}
use lib.ListN.{length, take}
use Rattle.bids.specs.Columns.{bids_in}
use Rattle.offer.specs.Viewed.{viewed}
use Rattle.marginal.proofs.Storing.{Among}
use Rattle.marginal.proofs.internal.keys_in.Given as goal

abbrev pub invariant-loop-i : goal.invariant-loop-i
invariant-loop-i l =
    (l.n ≤ l.i) × (length l.keys ≡ length l.initial.keys) × Among (viewed l.o) (bids_in l.bids) (take l.i (bids_in l.bids)) (take l.n l.keys)
