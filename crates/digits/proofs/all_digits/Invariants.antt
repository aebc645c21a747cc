-- `digits::all_digits` meets its contract. The loop's invariant: what is read and what is left are the whole. Assumes nothing.
use mathlib.Core.Path.{◌≡◌}
use mathlib.Core.Bool.{◌&&◌}
use Prim.Native.Nat.{◌-◌, ◌≤◌}
use lib.ListN.{length, drop}
use Rattle.digits.specs.Decimal.{all_digits}
use Rattle.digits.proofs.all_digits.Given as goal

abbrev pub invariant-loop-b : goal.invariant-loop-b
invariant-loop-b l = ((l.ok && all_digits (drop l.b-index l.s)) ≡ all_digits l.s)
