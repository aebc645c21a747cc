-- `tender_cases::script::run` is safe and ends. The loop's invariant: the lines before the index are done, and the tender was given by a call. Assumes nothing.
use Rattle.std.proofs.Common.{◌-◌, ◌≤◌, length}
use Rattle.tender.specs.Viewed.{Given}
use Rattle.tender_cases.proofs.script.run.Given as goal

abbrev pub invariant-loop-at : goal.invariant-loop-at
invariant-loop-at g l = (l.at ≤ length l.script) × Given l.s.tender

abbrev pub decreases-loop-at : goal.decreases-loop-at
decreases-loop-at g l = length l.script - l.at
