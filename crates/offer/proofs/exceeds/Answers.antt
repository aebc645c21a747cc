-- `offer::exceeds` meets its contract. The loop's invariant: what is found and what the rest will find are the whole. Assumes nothing.
use mathlib.Core.Path.{◌≡◌, refl, sym, ap, ◌∙◌}
use mathlib.Core.Bool.{Bool, ◌||◌, or_assoc, or-false}
use mathlib.Core.List.{List}
use Prim.Native.Nat.{ℕ, suc, ◌+◌, ◌-◌, ◌≤◌, ◌<◌}
use native.Mathlib.Numerals.{add-one}
use native.Mathlib.Omega.{arith}
use borrow.Author.Tests.{le-ltb}
use lib.Dec.{ltb}
use lib.ListN.{length, drop, get_or, drop_of_length-le}
use lib.Seq.{drop-cons}
use Rattle.rules.specs.Allotment.{sum}
use Rattle.bids.proofs.Loops.{above_step}
use Rattle.offer.proofs.exceeds.Goals as goal

-- one more amount, and the end
above_more : (over : Bool) (left : ℕ) (ns : List ℕ) (i : ℕ) → i < length ns
    → ((over || ltb left (get_or ns i 0)) || ltb (left - get_or ns i 0) (sum (drop (i + 1) ns))) ≡ (over || ltb left (sum (drop i ns)))
unfolding sum
above_more over left ns i h =
    let a = get_or ns i 0 in
    let t = sum (drop (suc i) ns) in
    rw (drop-cons ns i 0 h, add-one) (or_assoc over (ltb left a) (ltb (left - a) t) ∙ ap (λ (x : Bool). over || x) (above_step left a t (ltb left a) (ltb (left - a) t) refl refl))

above_end : (over : Bool) (left : ℕ) (ns : List ℕ) (i : ℕ) → length ns ≤ i → (over || ltb left (sum (drop i ns))) ≡ over
unfolding sum
above_end over left ns i h = rw (drop_of_length-le ns h, le-ltb left 0 (omega arith)) (or-false over)

pub loop-amount-init : goal.loop-amount-init
loop-amount-init c = refl

pub loop-amount-preserved : goal.loop-amount-preserved
loop-amount-preserved c =
    let amounts = c.args.amounts.now in
    let l = c.loop-amount in
    ap (λ (n : ℕ). (l.over || ltb l.left (get_or amounts l.amount-index 0)) || ltb n (sum (drop (l.amount-index + 1) amounts))) c.saturating_sub-left.ensures
    ∙ above_more l.over l.left amounts l.amount-index (omega arith)
    ∙ l.invariant

pub returns : goal.returns
returns c =
    let l = c.loop-amount in
    sym (above_end l.over l.left c.args.amounts.now l.amount-index (omega arith)) ∙ l.invariant
