-- `division::internal::divide` meets its contract. The loop's invariant: the division is the one of as many rounds as were run. Assumes nothing.
use Rattle.std.proofs.Common.{◌≡◌}
use Rattle.rules.specs.Allotment.{division_at}
use Rattle.division.specs.Rounds.{viewed}
use Rattle.division.proofs.internal.divide.Given as goal

abbrev pub invariant-loop : goal.invariant-loop
invariant-loop l = viewed l.d ≡ division_at l.a.0 l.m.0 l.e.0 l.counter
