-- Empty places after the bids change nothing: their awards are zeros, and the other awards and the marginal rate are those without them. Assumes nothing.
use mathlib.Core.Path.{◌≡◌, refl, ap, ap₂, ◌∙◌}
use mathlib.Core.Bool.{Bool, false, cond}
use mathlib.Core.List.{List, [], ◌∷◌, ◌++◌}
use Prim.Native.Nat.{ℕ, zero, suc, ◌+◌, ◌-◌}
use lib.ListN.{replicate}
use Rattle.rules.specs.Allotment.{Bid, no_bid, filled, Offer, is_in, is_better, is_equal, keep, total, total_better, total_equal}
use Rattle.rules.specs.Allotment.{division, share, shares, cents_left, award, awards_from, awards, reaches, best_rate, marginal_rate}
use Rattle.rules.proofs.Kept.{keep_agree}

-- a test that an empty place does not pass
keep_none : (p : Bid → Bool) → p no_bid ≡ false → (k : ℕ) → keep p (replicate k no_bid) ≡ []
unfolding keep
keep_none p h zero = refl
keep_none p h (suc k) = rw h (keep_none p h k)

keep_absent : (p : Bid → Bool) → p no_bid ≡ false → (bs : List Bid) (k : ℕ) → keep p (bs ++ replicate k no_bid) ≡ keep p bs
unfolding keep
keep_absent p h [] k = keep_none p h k
keep_absent p h (b ∷ bs) k = ap (λ (l : List Bid). cond (p b) (b ∷ l) l) (keep_absent p h bs k)

module _ (o : Offer) (bs : List Bid) (k : ℕ) where
  -- the bids, and k empty places after them
  abbrev pub all : List Bid
  all = bs ++ replicate k no_bid

  pub better : (r : ℕ) → total_better o all r ≡ total_better o bs r
  unfolding total_better is_better is_in filled
  better r = ap total (keep_absent (is_better o r) refl bs k)

  kept-equal : (r : ℕ) → keep (is_equal o r) all ≡ keep (is_equal o r) bs
  unfolding is_equal is_in filled
  kept-equal r = keep_absent (is_equal o r) refl bs k

  equal : (r : ℕ) → total_equal o all r ≡ total_equal o bs r
  unfolding total_equal
  equal r = ap total (kept-equal r)

  reached : (b : Bid) → reaches o all b ≡ reaches o bs b
  unfolding reaches
  reached b = rw (better b.rate, equal b.rate)

  -- the marginal rate with and without empty places
  pub marginal_absent : marginal_rate o all ≡ marginal_rate o bs
  unfolding marginal_rate reaches is_in filled
  marginal_absent = ap (best_rate o.side) (keep_absent (reaches o all) refl bs k ∙ keep_agree (reaches o all) (reaches o bs) bs (λ b m. reached b))

  share-same : (r a : ℕ) → share o all r a ≡ share o bs r a
  unfolding share
  share-same r a = ap₂ (λ (x y : ℕ). (division a (o.offered - x) y).quotient) (better r) (equal r)

  shares-same : (r : ℕ) (xs : List Bid) → shares o all r xs ≡ shares o bs r xs
  unfolding shares
  shares-same r [] = refl
  shares-same r (x ∷ xs) = ap₂ (λ (m n : ℕ). m + n) (share-same r x.amount) (shares-same r xs)

  cents-same : (r : ℕ) → cents_left o all r ≡ cents_left o bs r
  unfolding cents_left
  cents-same r = rw (better r, kept-equal r, shares-same r (keep (is_equal o r) bs))

  award-same : (before : List Bid) (b : Bid) → award o all before b ≡ award o bs before b
  unfolding award
  award-same before b = rw (better b.rate, equal b.rate, share-same b.rate b.amount, cents-same b.rate)

  awards_none : (before : List Bid) (n : ℕ) → awards_from o all before (replicate n no_bid) ≡ replicate n 0
  unfolding awards_from award is_in filled
  awards_none before zero = refl
  awards_none before (suc n) = ap (λ (l : List ℕ). 0 ∷ l) (awards_none (before ++ (no_bid ∷ [])) n)

  awards_from_lem : (before rest : List Bid) → awards_from o all before (rest ++ replicate k no_bid) ≡ awards_from o bs before rest ++ replicate k 0
  unfolding awards_from
  awards_from_lem before [] = awards_none before k
  awards_from_lem before (b ∷ rest) = ap₂ (λ (n : ℕ) (l : List ℕ). n ∷ l) (award-same before b) (awards_from_lem (before ++ (b ∷ [])) rest)

  -- the awards with and without empty places
  pub awards_absent : awards o all ≡ awards o bs ++ replicate k 0
  unfolding awards
  awards_absent = awards_from_lem [] bs
