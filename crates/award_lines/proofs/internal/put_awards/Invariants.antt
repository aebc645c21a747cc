-- `award_lines::internal::put_awards` meets its contract. The loop's invariant: the lines of the first i awards are written. Assumes nothing.
use mathlib.Core.List.{map}
use Prim.Native.Nat.{◌*◌, ◌≤◌}
use Rattle.output.specs.Output.{Wrote}
use Rattle.buffer.specs.Words.{low32}
use Rattle.award_lines.proofs.Places.{lines_from}
use Rattle.award_lines.proofs.internal.put_awards.Given as goal

abbrev pub invariant-loop-i : goal.invariant-loop-i
invariant-loop-i l =
    (l.at ≤ 36 * l.i) × Wrote l.initial.space 0 (lines_from l.codes (map low32 l.rates) l.awards 0 l.i) l.space l.at
