-- `numbers::internal::put_each` meets its contract. The loop's invariant: the numbers of the items so far are written. Assumes nothing.
use Rattle.std.proofs.Common.{◌≡◌, ℕ, ◌+◌, map, take}
use Rattle.output.specs.Output.{Wrote}
use Rattle.numbers.proofs.internal.put_each.Given as goal

abbrev pub invariant-loop-item : goal.invariant-loop-item
invariant-loop-item g l =
    record {
      past : l.end ≡ l.at + l.item-index;
      wrote : (f : _) → ((item : _) (n : ℕ) → goal.F-post g l.number item n → n ≡ f item) → Wrote l.initial.words l.at (map f (take l.item-index l.items)) l.words l.end;
    }
