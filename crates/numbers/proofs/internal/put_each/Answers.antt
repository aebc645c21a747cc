-- `numbers::internal::put_each` meets its contract. The loop's invariant: the numbers of the items so far are written. Assumes nothing.
use mathlib.Core.Path.{◌≡◌, ap, ◌∙◌}
use mathlib.Core.List.{map}
use Prim.Native.Nat.{ℕ}
use native.Mathlib.Omega.{arith}
use lib.ListN.{length, take}
use lib.Seq.{take-length}
use Rattle.output.proofs.Output.{nothing, said}
use Rattle.numbers.proofs.Arrays.{each_more}
use Rattle.numbers.proofs.internal.put_each.Goals as goal

pub loop-item-init : goal.loop-item-init
loop-item-init g c = record { past = omega arith; wrote = λ f is. nothing c.args.words.now c.args.at }

pub loop-item-preserved : goal.loop-item-preserved
loop-item-preserved g c =
    let l = c.loop-item in
    record {
      past = omega (arith, c.put-end.ensures.past);
      wrote = λ f is. each_more f c.args.items.now l.item-index c.item-item.result c.number.result (omega (arith, c.requires.room)) (omega arith) c.item-item.is (is _ _ c.number.ensures) (l.invariant.wrote f is) c.put-end.ensures;
    }

pub returns-clause-wrote : goal.returns-clause-wrote
returns-clause-wrote g c =
    λ f is. let items = c.args.items.now in
    let all : c.loop-item.item-index ≡ length items = omega arith in
    said (ap (λ (k : ℕ). map f (take k items)) all ∙ ap (map f) (take-length items)) (c.loop-item.invariant.wrote f is)
