-- Laws of what the call for all numbers gives. Assumes nothing.
use mathlib.Core.Path.{◌≡◌, ◌∙◌}
use mathlib.Core.Bool.{true, false}
use mathlib.Core.List.{List}
use mathlib.Core.Option.{none, some}
use Prim.Native.Nat.{ℕ, ◌≤◌}
use native.Mathlib.Omega.{arith}
use lib.ListN.{length}
use lib.Seq.{take_all}
use Rattle.output.specs.Output.{Wrote}
use Rattle.output.proofs.Output.{from_start}
use Rattle.layout.specs.Fields.{readable}
use Rattle.envelope.specs.Refusals.{first_holding}
use Rattle.envelope.specs.Application.{layout6_g1}
use Rattle.numbers.specs.Numbers.{numbers_of, in_array}
use Rattle.numbers.proofs.Arrays.{length-numbers}
use Rattle.optes.specs.Interface.{numbers_read}

pub numbers-unreadable : (m array : List ℕ) → readable layout6_g1 m ≡ false → numbers_read m array ≡ (some 12, array)
unfolding numbers_read first_holding
numbers-unreadable m array h = rw h

pub numbers-given : (m array : List ℕ) → readable layout6_g1 m ≡ true → numbers_read m array ≡ (none, in_array (numbers_of m) array)
unfolding numbers_read first_holding
numbers-given m array h = rw h

pub numbers-all : (m array after : List ℕ) (end : ℕ) → readable layout6_g1 m ≡ true → 51 ≤ length array → Wrote array 0 (numbers_of m) after end → numbers_read m array ≡ (none, after)
unfolding in_array
numbers-all m array after end h l w =
    let n = length-numbers m in
    numbers-given m array h ∙ rw (w.bytes, from_start array (numbers_of m), take_all (length array) (numbers_of m) (omega arith))
