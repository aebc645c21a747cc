-- An induction over all numbers as rates: what holds of no bids, and passes from the bids at better rates to those at this rate too, holds of the bids at
-- better rates and of all bids in. Assumes nothing.
use mathlib.Core.Path.{◌≡◌, refl, ap}
use mathlib.Core.Bool.{Bool, true, false, not, and-true, and-false, not-not}
use mathlib.Core.List.{List, [], ◌∷◌, Memᴰ}
use Prim.Native.Nat.{ℕ, zero, suc, ◌+◌, ◌≤◌}
use native.Mathlib.Omega.{arith}
use lib.Dec.{ltb}
use borrow.Author.Tests.{ltb-true, ltb-false, lt-ltb, le-ltb}
use Rattle.announcement.specs.declared.Side.{Side}
use Rattle.announcement.specs.declared.Side.TheVariants.{La, Lp}
use Rattle.rules.specs.Allotment.{Bid, Offer, better_rate, is_in, is_better}
use Rattle.rules.proofs.Kept.{Agree}
use Rattle.rules.proofs.Rates.{not_worse}

abbrev pub never : Bid → Bool
never b = false

-- no rate of the list is above this
rate_bound : List Bid → ℕ
rate_bound [] = 0
rate_bound (b ∷ bs) = b.rate + rate_bound bs

below_bound : {b : Bid} {bs : List Bid} → Memᴰ b bs → b.rate ≤ rate_bound bs
unfolding rate_bound
below_bound (Memᴰ.head e) = omega (arith, ap {B = ℕ} (λ (b : Bid). b.rate) e)
below_bound (Memᴰ.tail m) = omega (arith, below_bound m)

below_suc : (x r : ℕ) → ltb x (suc r) ≡ not (ltb r x)
below_suc x r = go (ltb r x) refl
  where
    go : (t : Bool) → ltb r x ≡ t → ltb x (suc r) ≡ not t
    go true e = le-ltb x (suc r) (omega (arith, ltb-true))
    go false e = lt-ltb x (suc r) (omega (arith, ltb-false))

module _
    (o : Offer) (bs : List Bid) (P : (Bid → Bool) → Type 0)
    (agree : (p q : Bid → Bool) → Agree p q bs → P q → P p)
    (none : P never)
    (with_rate : (r : ℕ) → P (is_better o r) → P (not_worse o r)) where
  -- LA: from rate 0 up
  module _ (la : o.side ≡ La) where
    none_below : Agree (is_better o 0) never bs
    unfolding is_better better_rate
    none_below b m = rw (la, le-ltb b.rate 0 (omega arith), and-false)

    up_one : (r : ℕ) → Agree (is_better o (suc r)) (not_worse o r) bs
    unfolding is_better not_worse better_rate
    up_one r b m = rw (la, below_suc b.rate r)

    all_below : Agree (is_in o) (is_better o (suc (rate_bound bs))) bs
    unfolding is_better better_rate
    all_below b m = rw (la, lt-ltb b.rate (suc (rate_bound bs)) (omega (arith, below_bound m)), and-true)

    up : (r : ℕ) → P (is_better o r)
    up zero = agree (is_better o 0) never none_below none
    up (suc r) = agree (is_better o (suc r)) (not_worse o r) (up_one r) (with_rate r (up r))

    in_La : P (is_in o)
    in_La = agree (is_in o) (is_better o (suc (rate_bound bs))) all_below (up (suc (rate_bound bs)))

  -- LP: from a bound of the rates down
  module _ (lp : o.side ≡ Lp) where
    none_above : (r : ℕ) → rate_bound bs ≤ r → Agree (is_better o r) never bs
    unfolding is_better better_rate
    none_above r h b m = rw (lp, le-ltb r b.rate (omega (arith, below_bound m)), and-false)

    down_one : (r : ℕ) → Agree (is_better o r) (not_worse o (suc r)) bs
    unfolding is_better not_worse better_rate
    down_one r b m = rw (lp, below_suc b.rate r, not-not)

    all_above : Agree (is_in o) (not_worse o 0) bs
    unfolding not_worse better_rate
    all_above b m = rw (lp, le-ltb b.rate 0 (omega arith), and-true)

    down : (d r : ℕ) → rate_bound bs ≤ d + r → P (is_better o r)
    down zero r h = agree (is_better o r) never (none_above r (omega arith)) none
    down (suc d) r h = agree (is_better o r) (not_worse o (suc r)) (down_one r) (with_rate (suc r) (down d (suc r) (omega arith)))

    in_Lp : P (is_in o)
    in_Lp = agree (is_in o) (not_worse o 0) all_above (with_rate 0 (down (rate_bound bs) 0 (omega arith)))

  better_on : (d : Side) → o.side ≡ d → (r : ℕ) → P (is_better o r)
  better_on La e r = up e r
  better_on Lp e r = down e (rate_bound bs) r (omega arith)

  in_on : (d : Side) → o.side ≡ d → P (is_in o)
  in_on La e = in_La e
  in_on Lp e = in_Lp e

  pub at_better : (r : ℕ) → P (is_better o r)
  at_better r = better_on o.side refl r

  pub of_all_in : P (is_in o)
  of_all_in = in_on o.side refl
