-- `numbers::internal::put_first` meets its contract. The loop's invariant: those of the first k numbers that have room are stored. Assumes nothing.
use Rattle.std.proofs.Common.{◌≡◌, ◌++◌, length, take, drop}
use Rattle.numbers.proofs.internal.put_first.Given as goal

abbrev pub invariant-loop-k : goal.invariant-loop-k
invariant-loop-k l = (length l.numbers ≡ length l.initial.numbers) × (l.numbers ≡ take (length l.initial.numbers) (take l.k l.all) ++ drop l.k l.initial.numbers)
