-- `awards::internal::serve_all` meets its contract. The loop's invariant: the first bids are served, and what those of them at the last rate are served is
-- added up. Assumes nothing.
use Rattle.bids.specs.Columns.{bids_in}
use Rattle.offer.specs.Viewed.{viewed}
use Rattle.awards.proofs.Loops.{ServedTo}
use Rattle.awards.proofs.internal.serve_all.Given as goal

abbrev pub invariant-loop-i : goal.invariant-loop-i
invariant-loop-i l = ServedTo (viewed l.o) l.last.0 l.t.better.0 l.t.equal.0 (bids_in l.bids) l.initial.awards l.awards l.shared l.i
