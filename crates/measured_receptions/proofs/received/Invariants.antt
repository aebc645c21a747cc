-- `measured_receptions::received` meets its contract: each tender was given by a call. Assumes nothing.
use Rattle.tender.specs.Viewed.{Given}
use Rattle.measured_receptions.proofs.received.Given as goal

abbrev pub invariant-loop-message : goal.invariant-loop-message
invariant-loop-message l = Given l.t
