-- `in_place_cases::sessions::run` is safe and ends. The loop's invariant: the tender was given by a call. Assumes nothing.
use Rattle.tender.specs.Viewed.{Given}
use Rattle.in_place_cases.proofs.sessions.run.Given as goal

abbrev pub invariant-loop-k : goal.invariant-loop-k
invariant-loop-k g l = Given l.b.tender
