-- `book::amounts_of` meets its contract. The loop's invariant: the first i amounts are written. Assumes nothing.
use Rattle.book.specs.Viewed.{amount_of}
use Rattle.book.proofs.Mapped.{MappedTo}
use Rattle.book.proofs.amounts_of.Given as goal

abbrev pub invariant-loop-i : goal.invariant-loop-i
invariant-loop-i l = MappedTo amount_of l.cents l.initial.amounts l.amounts l.i
