-- `envelope_cases::reading::lengths_of` is safe and ends. The loop's invariant: no more is counted than was passed. Assumes nothing.
use Rattle.std.proofs.Common.{◌≤◌}
use Rattle.envelope_cases.proofs.reading.lengths_of.Given as goal

abbrev pub invariant-loop-n : goal.invariant-loop-n
invariant-loop-n g l = l.refused ≤ l.n
