-- `buffer_allotment::internal::rates_in` meets its contract. The loop's invariant: the first i rates are written. Assumes nothing.
use Rattle.book.proofs.Mapped.{MappedTo}
use Rattle.buffer.specs.Words.{part, low32}
use Rattle.buffer_allotment.proofs.internal.rates_in.Given as goal

abbrev pub invariant-loop-i : goal.invariant-loop-i
invariant-loop-i l = MappedTo low32 (part 216 640 l.words) l.initial.rates l.rates l.i
