-- `buffer_search::internal::below_from` meets its contract. The loop's invariant: all codes before the index are below. Assumes nothing.
use Prim.Native.Nat.{◌-◌}
use lib.ListN.{length}
use Rattle.buffer_search.specs.Search.{AllBelow}
use Rattle.buffer_search.proofs.internal.below_from.Given as goal

abbrev pub invariant-loop-at : goal.invariant-loop-at
invariant-loop-at l = AllBelow l.codes l.at l.code

abbrev pub decreases-loop-at : goal.decreases-loop-at
decreases-loop-at l = length l.codes - l.at
