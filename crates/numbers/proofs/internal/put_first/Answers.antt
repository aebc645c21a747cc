-- `numbers::internal::put_first` meets its contract. The loop's invariant: those of the first k numbers that have room are stored. Assumes nothing.
use mathlib.Core.Path.{◌≡◌, refl, sym, ap, ◌∙◌}
use mathlib.Core.List.{List, ◌++◌}
use Prim.Native.Nat.{ℕ}
use native.Mathlib.Omega.{arith}
use lib.ListN.{length}
use lib.Seq.{take-nil, take_all}
use Rattle.numbers.specs.Numbers.{in_array}
use Rattle.numbers.proofs.Arrays.{room_more}
use Rattle.numbers.proofs.internal.put_first.Goals as goal

pub loop-k-init : goal.loop-k-init
loop-k-init c =
    let numbers = c.args.numbers.now in
    (refl, ap (λ (l : List ℕ). l ++ numbers) (sym (take-nil (length numbers))))

pub loop-k-preserved : goal.loop-k-preserved
loop-k-preserved c =
    let a = c.args in
    let l = c.loop-k in
    let stored = c.put_if_room.ensures in
    (omega arith, stored ∙ room_more a.all.now a.numbers.now l.numbers l.k (omega arith) l.invariant.1)

pub returns : goal.returns
unfolding in_array
returns c =
    let a = c.args in
    let l = c.loop-k in
    let all = a.all.now in
    let k : l.k ≡ length all = omega arith in
    l.invariant.1 ∙ rw (k, take_all (length all) all (omega arith))
