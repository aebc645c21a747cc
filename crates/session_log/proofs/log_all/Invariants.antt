-- The loop of `session_log::log_all`: the indices lie in the buffer, the codes and words are those that a run left, and the lines written so far and the log of what waits are the log of what was read. Assumes nothing.
use Rattle.std.proofs.Common.{◌≤◌, length}
use Rattle.session_log.specs.Turns.{Within, Journal}
use Rattle.session_log.proofs.Logs.{Sofar}
use Rattle.session_log.proofs.log_all.Given as goal

abbrev pub invariant-loop : goal.invariant-loop
invariant-loop g l =
    Within l.now l.input
    × Journal l.now l.codes l.words
    × (23040 ≤ length l.lines)
    × Sofar (g.R.Read.remaining l.initial.reader) (g.R.Read.remaining l.reader) (g.W.Write.contents l.initial.writer) (g.W.Write.contents l.writer) l.counter l.now l.codes l.words l.input
