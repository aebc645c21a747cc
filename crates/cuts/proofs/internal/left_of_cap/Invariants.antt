-- `cuts::internal::left_of_cap` meets its contract. The loop's invariant: what is added up and what is left are the whole. Assumes nothing.
use mathlib.Core.Path.{◌≡◌}
use Prim.Native.Nat.{◌+◌}
use lib.ListN.{drop}
use Rattle.bids.specs.Columns.{bids_in}
use Rattle.cuts.specs.Walked.{walked}
use Rattle.cuts.proofs.internal.left_of_cap.Given as goal

abbrev pub invariant-loop-j : goal.invariant-loop-j
invariant-loop-j l = l.before + walked l.rate l.i l.j (drop l.j (bids_in l.bids)) ≡ walked l.rate l.i 0 (bids_in l.bids)
