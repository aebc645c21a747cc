-- `words::internal::put_word` meets its contract. The loop's invariant: the first i bytes of the word stand in the space, and the bytes left are those of what is left of it. Assumes nothing.
use Rattle.std.proofs.Common.{◌≡◌, ◌-◌, ◌≤◌, length, drop}
use lib.Seq.{paste}
use Rattle.words.specs.Words.{low_bytes}
use Rattle.words.proofs.internal.put_word.Given as goal

abbrev pub invariant-loop-i : goal.invariant-loop-i
invariant-loop-i l = (l.space ≡ paste l.initial.space l.at (low_bytes 8 l.t) l.i) × (drop l.i (low_bytes 8 l.t) ≡ low_bytes (8 - l.i) l.left)
