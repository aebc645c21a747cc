-- `layout::internal::offset_of` meets its contract. The loop's invariant: field k starts as far after at as the last of the fields left. Assumes nothing.
use mathlib.Core.Path.{◌≡◌}
use mathlib.Core.Bool.{true}
use Prim.Native.Nat.{◌+◌, ◌-◌, ◌≤◌}
use lib.ListN.{length, drop}
use Rattle.layout.specs.Fields.{whole, offset}
use Rattle.layout.proofs.internal.offset_of.Given as goal

abbrev pub invariant-loop : goal.invariant-loop
invariant-loop l = (l.at ≤ length l.m) × (whole (l.k - l.counter) (drop l.at l.m) ≡ true) × (offset l.k l.m ≡ l.at + offset (l.k - l.counter) (drop l.at l.m))
