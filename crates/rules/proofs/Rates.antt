-- The order of rates: laws of `better_rate`, and the bids in at rates not worse than a given one. Assumes nothing.
use mathlib.Core.Path.{◌≡◌, refl}
use mathlib.Core.Bool.{Bool, true, false, ◌&&◌, not, cond}
use Prim.Native.Nat.{ℕ, ◌+◌}
use native.Mathlib.Omega.{arith}
use lib.Dec.{ltb, eqb}
use borrow.Author.Tests.{ltb-true, ltb-false, lt-ltb, le-ltb, eqb-true, eqb-false}
use Rattle.announcement.specs.declared.Side.{Side}
use Rattle.announcement.specs.declared.Side.TheVariants.{La, Lp}
use Rattle.rules.specs.Allotment.{Bid, Offer, better_rate, is_in, is_better, is_equal}
use Rattle.rules.proofs.Kept.{Split}

pub not_itself : (d : Side) (r : ℕ) → better_rate d r r ≡ false
unfolding better_rate
not_itself La r = le-ltb r r (omega arith)
not_itself Lp r = le-ltb r r (omega arith)

pub not_both : (d : Side) (s r : ℕ) → better_rate d s r ≡ true → better_rate d r s ≡ false
unfolding better_rate
not_both La s r h = le-ltb r s (omega (arith, ltb-true))
not_both Lp s r h = le-ltb s r (omega (arith, ltb-true))

-- neither is better: the same rate
pub same-rate : (d : Side) (r s : ℕ) → better_rate d r s ≡ false → better_rate d s r ≡ false → r ≡ s
unfolding better_rate
same-rate La r s h k = omega (arith, ltb-false)
same-rate Lp r s h k = omega (arith, ltb-false)

-- x is not better than s, nor s than r: x is not better than r
pub not_better : (d : Side) (x s r : ℕ) → better_rate d x s ≡ false → better_rate d s r ≡ false → better_rate d x r ≡ false
unfolding better_rate
not_better La x s r h k = le-ltb x r (omega (arith, ltb-false))
not_better Lp x s r h k = le-ltb r x (omega (arith, ltb-false))

-- c is not better than x, and is better than r: x is better than r
pub also_better : (d : Side) (c x r : ℕ) → better_rate d c x ≡ false → better_rate d c r ≡ true → better_rate d x r ≡ true
unfolding better_rate
also_better La c x r h k = lt-ltb x r (omega (arith, ltb-true, ltb-false))
also_better Lp c x r h k = lt-ltb r x (omega (arith, ltb-true, ltb-false))

-- of two numbers one is the smaller, or they are the same
order : (x r v : ℕ)
    → (cond (not (ltb r x)) v 0 ≡ cond (ltb x r) v 0 + cond (eqb x r) v 0) × (cond (not (ltb x r)) v 0 ≡ cond (ltb r x) v 0 + cond (eqb x r) v 0)
order x r v = go (ltb r x) (ltb x r) (eqb x r) refl refl refl
  where
    go : (a b c : Bool) → ltb r x ≡ a → ltb x r ≡ b → eqb x r ≡ c
        → (cond (not a) v 0 ≡ cond b v 0 + cond c v 0) × (cond (not b) v 0 ≡ cond a v 0 + cond c v 0)
    go true true c ea eb ec = absurd (omega (arith, ltb-true))
    go true false true ea eb ec = absurd (omega (arith, ltb-true, eqb-true))
    go true false false ea eb ec = (refl, omega arith)
    go false true true ea eb ec = absurd (omega (arith, ltb-true, eqb-true))
    go false true false ea eb ec = (omega arith, refl)
    go false false true ea eb ec = (omega arith, omega arith)
    go false false false ea eb ec = absurd (omega (arith, ltb-false, eqb-false x r ec))

better_or_equal : (d : Side) (x r v : ℕ) → cond (not (better_rate d r x)) v 0 ≡ cond (better_rate d x r) v 0 + cond (eqb x r) v 0
unfolding better_rate
better_or_equal La x r v = (order x r v).0
better_or_equal Lp x r v = (order x r v).1

-- the bids in at rates not worse than r: those at better rates, and those at r
unfoldable pub not_worse : Offer → ℕ → Bid → Bool
not_worse o r b = is_in o b && not (better_rate o.side r b.rate)

pub split_rate : (o : Offer) (r : ℕ) → Split (not_worse o r) (is_better o r) (is_equal o r)
unfolding not_worse is_better is_equal
split_rate o r b v = go (is_in o b)
  where
    go : (i : Bool)
        → cond (i && not (better_rate o.side r b.rate)) v 0
        ≡ cond (i && better_rate o.side b.rate r) v 0 + cond (i && eqb b.rate r) v 0
    go true = better_or_equal o.side b.rate r v
    go false = refl
