-- `places::internal::put_places` meets its contract. The loop's invariant: the first k places are written. Assumes nothing.
use mathlib.Core.Path.{◌≡◌}
use Prim.Native.Nat.{◌+◌, ◌*◌}
use lib.ListN.{take}
use Rattle.output.specs.Output.{Wrote}
use Rattle.places.specs.Bids.{places_text}
use Rattle.places.proofs.internal.put_places.Given as goal

abbrev pub invariant-loop-k : goal.invariant-loop-k
invariant-loop-k l = (l.end ≡ l.at + 24 * l.k) × Wrote l.initial.space l.at (places_text (take l.k l.rates) (take l.k l.amounts)) l.space l.end
