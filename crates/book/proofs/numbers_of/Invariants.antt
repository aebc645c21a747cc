-- `book::numbers_of` meets its contract. The loop's invariant: the first i numbers are written. Assumes nothing.
use Rattle.book.specs.Viewed.{hundred_thousandths}
use Rattle.book.proofs.Mapped.{MappedTo}
use Rattle.book.proofs.numbers_of.Given as goal

abbrev pub invariant-loop-i : goal.invariant-loop-i
invariant-loop-i l = MappedTo hundred_thousandths l.from l.initial.numbers l.numbers l.i
