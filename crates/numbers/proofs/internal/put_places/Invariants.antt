-- `numbers::internal::put_places` meets its contract. The loop's invariant: the first k places are written. Assumes nothing.
use mathlib.Core.Path.{◌≡◌}
use Prim.Native.Nat.{◌+◌, ◌*◌}
use lib.ListN.{length}
use Rattle.output.specs.Output.{Wrote}
use Rattle.numbers.specs.Numbers.{places_numbers}
use Rattle.numbers.proofs.internal.put_places.Given as goal

abbrev pub invariant-loop-k : goal.invariant-loop-k
invariant-loop-k l = (l.end ≡ l.at + 3 * l.k) × (length l.numbers ≡ length l.initial.numbers) × Wrote l.initial.numbers l.at (places_numbers l.k l.m) l.numbers l.end
