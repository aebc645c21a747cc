-- `book::cents_of` meets its contract. The loop's invariant: the first i numbers are written. Assumes nothing.
use Rattle.bids.specs.Columns.{cents}
use Rattle.book.proofs.Mapped.{MappedTo}
use Rattle.book.proofs.cents_of.Given as goal

abbrev pub invariant-loop-i : goal.invariant-loop-i
invariant-loop-i l = MappedTo cents l.from l.initial.cents l.cents l.i
