-- `digits::internal::value` meets its contract. The loop's invariant: what is left continues the number. Assumes nothing.
use mathlib.Core.Path.{◌≡◌}
use mathlib.Core.Bool.{true}
use Prim.Native.Nat.{◌-◌, ◌≤◌, ◌<◌, ◌^◌}
use lib.ListN.{length, drop}
use Rattle.digits.specs.Decimal.{all_digits, number_from, number_of}
use Rattle.digits.proofs.internal.value.Given as goal

abbrev pub invariant-loop-b : goal.invariant-loop-b
invariant-loop-b l = (number_from l.n (drop l.b-index l.s) ≡ number_of l.s) × (all_digits (drop l.b-index l.s) ≡ true) × (l.n < 10 ^ l.b-index)
