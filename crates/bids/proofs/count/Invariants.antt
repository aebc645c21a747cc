-- `bids::count` meets its contract. The loop's invariant: what is counted and what is left are the whole. Assumes nothing.
use mathlib.Core.Path.{◌≡◌}
use Prim.Native.Nat.{◌+◌, ◌≤◌}
use lib.ListN.{length, drop}
use Rattle.rules.specs.Allotment.{filled, keep}
use Rattle.bids.specs.Columns.{bids_from}
use Rattle.bids.proofs.count.Given as goal

abbrev pub invariant-loop-rate : goal.invariant-loop-rate
invariant-loop-rate l = (l.n ≤ length l.yielded) × (l.n + length (keep filled (drop (length l.yielded) (bids_from l.fn.rates l.fn.amounts 0 10))) ≡ length (keep filled (bids_from l.fn.rates l.fn.amounts 0 10)))
