-- The amounts of the placed bids that pass a test, and so of those walked before a bid: the bids in at better rates, and those at its rate in the places
-- before it. Assumes nothing.
use mathlib.Core.Path.{◌≡◌, refl, sym, ◌∙◌, ap}
use mathlib.Core.Bool.{Bool, true, false, cond, ◌&&◌, ◌||◌, false≢true}
use mathlib.Core.List.{List, [], ◌∷◌, ◌++◌, Memᴰ}
use Prim.Native.Nat.{ℕ, suc, ◌+◌, ◌≤◌, ◌<◌}
use native.Mathlib.Omega.{arith}
use lib.Dec.{ltb, eqb}
use lib.ListN.{length}
use borrow.Author.Tests.{lt-ltb, le-ltb, eqb-true}
use Rattle.announcement.specs.declared.Side.{Side}
use Rattle.rules.specs.Allotment.{Bid, Offer, better_rate, is_in, is_better, is_equal, keep, total}
use Rattle.rules.proofs.Kept.{total_cons}
use Rattle.rules.proofs.Rates.{not_itself}
use Rattle.credit_limits.specs.Walk.{PlacedBid, placed_from, is_walked, insert, best_first}
use Rattle.credit_limits.proofs.Order.{walked_before}

unfoldable pub weigh : (PlacedBid → Bool) → List PlacedBid → ℕ
weigh p [] = 0
weigh p (x ∷ xs) = cond (p x) x.bid.amount 0 + weigh p xs

pub weigh_none : (p : PlacedBid → Bool) (xs : List PlacedBid) → ((x : PlacedBid) → Memᴰ x xs → p x ≡ false) → weigh p xs ≡ 0
unfolding weigh
weigh_none p [] h = refl
weigh_none p (x ∷ xs) h = rw (h x (Memᴰ.head refl)) (omega (arith, weigh_none p xs (λ y m. h y (Memᴰ.tail m))))

pub weigh-first : (p : PlacedBid → Bool) (x : PlacedBid) (xs : List PlacedBid) → p x ≡ true → weigh p (x ∷ xs) ≡ x.bid.amount + weigh p xs
unfolding weigh
weigh-first p x xs h = ap (λ (t : Bool). cond t x.bid.amount 0 + weigh p xs) h

-- in any order

weigh-insert : (p : PlacedBid → Bool) (d : Side) (x : PlacedBid) (ys : List PlacedBid)
    → weigh p (insert d x ys) ≡ cond (p x) x.bid.amount 0 + weigh p ys
unfolding weigh insert
weigh-insert p d x [] = refl
weigh-insert p d x (y ∷ ys) = go (better_rate d y.bid.rate x.bid.rate) (weigh-insert p d x ys)
  where
    go : (t : Bool)
        → weigh p (insert d x ys) ≡ cond (p x) x.bid.amount 0 + weigh p ys
        → weigh p (cond t (y ∷ insert d x ys) (x ∷ y ∷ ys)) ≡ cond (p x) x.bid.amount 0 + (cond (p y) y.bid.amount 0 + weigh p ys)
    go true ih = omega arith
    go false ih = refl

pub weigh_best : (p : PlacedBid → Bool) (d : Side) (xs : List PlacedBid) → weigh p (best_first d xs) ≡ weigh p xs
unfolding weigh best_first
weigh_best p d [] = refl
weigh_best p d (x ∷ xs) = omega (arith, weigh-insert p d x (best_first d xs), weigh_best p d xs)

weigh-keep : (p q : PlacedBid → Bool) (x : PlacedBid) (xs : List PlacedBid)
    → weigh p (keep q (x ∷ xs)) ≡ cond (q x) (cond (p x) x.bid.amount 0) 0 + weigh p (keep q xs)
unfolding weigh keep
weigh-keep p q x xs = go (q x)
  where
    go : (t : Bool) → weigh p (cond t (x ∷ keep q xs) (keep q xs)) ≡ cond t (cond (p x) x.bid.amount 0) 0 + weigh p (keep q xs)
    go true = refl
    go false = omega arith

-- walked before y

module _ (o : Offer) (y : PlacedBid) where
  abbrev better : Bid → Bool
  better = is_better o y.bid.rate

  abbrev equal : Bid → Bool
  equal = is_equal o y.bid.rate

  abbrev ahead : PlacedBid → Bool
  ahead = walked_before o.side y

  -- a bid at a later place, or at this one
  weigh_late : (k : ℕ) (x : Bid)
      → y.place ≤ k
      → cond (is_in o x) (cond (ahead (record { place = k; bid = x })) x.amount 0) 0 ≡ cond (better x) x.amount 0
  unfolding walked_before is_better
  weigh_late k x l = go (is_in o x) (better_rate o.side x.rate y.bid.rate) (eqb x.rate y.bid.rate) (ltb k y.place) (le-ltb k y.place l)
    where
      go : (i b e t : Bool) → t ≡ false → cond i (cond (b || (e && t)) x.amount 0) 0 ≡ cond (i && b) x.amount 0
      go false b e t h = refl
      go true true e t h = refl
      go true false true t h = ap (λ (c : Bool). cond c x.amount 0) h
      go true false false t h = refl

  -- one at an earlier place
  weigh_early : (k : ℕ) (x : Bid)
      → k < y.place
      → cond (is_in o x) (cond (ahead (record { place = k; bid = x })) x.amount 0) 0 ≡ cond (better x) x.amount 0 + cond (equal x) x.amount 0
  unfolding walked_before is_better is_equal
  weigh_early k x l =
      go (is_in o x) (better_rate o.side x.rate y.bid.rate) (eqb x.rate y.bid.rate) (ltb k y.place) (lt-ltb k y.place l) refl refl
    where
      not_equal : better_rate o.side x.rate y.bid.rate ≡ true → eqb x.rate y.bid.rate ≡ true → ⊥
      not_equal b e =
          false≢true
          (sym (not_itself o.side y.bid.rate)
          ∙ ap (λ (r : ℕ). better_rate o.side r y.bid.rate) (sym (eqb-true x.rate y.bid.rate e))
          ∙ b)

      go : (i b e t : Bool)
          → t ≡ true
          → better_rate o.side x.rate y.bid.rate ≡ b
          → eqb x.rate y.bid.rate ≡ e
          → cond i (cond (b || (e && t)) x.amount 0) 0 ≡ cond (i && b) x.amount 0 + cond (i && e) x.amount 0
      go false b e t h q r = refl
      go true true true t h q r = absurd (not_equal q r)
      go true true false t h q r = omega arith
      go true false true t h q r = ap (λ (c : Bool). cond c x.amount 0) h ∙ omega arith
      go true false false t h q r = refl

  weigh_rest : (k : ℕ) (rest : List Bid) → y.place ≤ k → weigh ahead (keep (is_walked o) (placed_from k rest)) ≡ total (keep better rest)
  unfolding placed_from keep total weigh is_walked
  weigh_rest k [] l = refl
  weigh_rest k (x ∷ rest) l =
      omega (
        arith,
        weigh-keep ahead (is_walked o) (record { place = k; bid = x }) (placed_from (suc k) rest),
        weigh_late k x l,
        weigh_rest (suc k) rest (omega arith),
        total_cons better x rest,
      )

  pub weigh-all : (k : ℕ) (before rest : List Bid)
      → k + length before ≡ y.place
      → weigh (walked_before o.side y) (keep (is_walked o) (placed_from k (before ++ rest)))
      ≡ total (keep (is_better o y.bid.rate) (before ++ rest)) + total (keep (is_equal o y.bid.rate) before)
  unfolding placed_from keep total weigh is_walked
  weigh-all k [] rest h = omega (arith, weigh_rest k rest (omega arith))
  weigh-all k (x ∷ before) rest h =
      omega (
        arith,
        weigh-keep ahead (is_walked o) (record { place = k; bid = x }) (placed_from (suc k) (before ++ rest)),
        weigh_early k x (omega arith),
        weigh-all (suc k) before rest (omega arith),
        total_cons better x (before ++ rest),
        total_cons equal x before,
      )
