-- `output::internal::put` meets its contract. The loop's invariant: space is as it was, with the first j bytes of text from at. Assumes nothing.
use mathlib.Core.Path.{◌≡◌}
use lib.Seq.{paste}
use Rattle.output.proofs.internal.put.Given as goal

abbrev pub invariant-loop-j : goal.invariant-loop-j
invariant-loop-j l = l.space ≡ paste l.initial.space l.at l.text l.j
