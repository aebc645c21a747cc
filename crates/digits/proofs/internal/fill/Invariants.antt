-- `digits::internal::fill` meets its contract. The loop's invariant: the digits still to write, then what is written, are the whole. Assumes nothing.
use Rattle.std.proofs.Common.{◌≡◌, ◌++◌, length, drop}
use Rattle.digits.specs.Decimal.{digits}
use Rattle.digits.proofs.internal.fill.Given as goal

abbrev pub invariant-loop-i : goal.invariant-loop-i
invariant-loop-i l = digits l.i l.rest ++ drop l.i l.part ≡ digits (length l.initial.part) l.n
