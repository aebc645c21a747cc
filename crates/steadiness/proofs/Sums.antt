-- Sums over the bids of a list that pass a test, and how many pass it before a place, where the bid at a place is another. Assumes nothing.
use mathlib.Core.Path.{◌≡◌, refl, sym, ap, ◌∙◌}
use mathlib.Core.Bool.{Bool, true, false, cond, false≢true}
use mathlib.Core.List.{List, [], ◌∷◌}
use Prim.Native.Nat.{ℕ, zero, suc, ◌+◌, ◌≤◌, ◌<◌}
use native.Mathlib.Omega.{arith}
use lib.ListN.{length, take, get_or, set}
use Rattle.rules.specs.Allotment.{Bid, no_bid, keep, total}

unfoldable pub sum_where : (Bid → Bool) → (Bid → ℕ) → List Bid → ℕ
sum_where p f [] = 0
sum_where p f (b ∷ bs) = cond (p b) (f b) 0 + sum_where p f bs

-- what is added up bid by bid, of the bids that pass
pub where_keep : (g : List Bid → ℕ) (f : Bid → ℕ)
    → g [] ≡ 0
    → ((b : Bid) (bs : List Bid) → g (b ∷ bs) ≡ f b + g bs)
    → (p : Bid → Bool) (bs : List Bid)
    → g (keep p bs) ≡ sum_where p f bs
unfolding keep sum_where
where_keep g f start step p [] = start
where_keep g f start step p (b ∷ bs) = go (p b) (where_keep g f start step p bs)
  where
    go : (t : Bool) → g (keep p bs) ≡ sum_where p f bs → g (cond t (b ∷ keep p bs) (keep p bs)) ≡ cond t (f b) 0 + sum_where p f bs
    go true e = omega (arith, step b (keep p bs))
    go false e = omega arith

pub total_where : (p : Bid → Bool) (bs : List Bid) → total (keep p bs) ≡ sum_where p (λ b. b.amount) bs
unfolding total
total_where p bs = where_keep total (λ b. b.amount) refl (λ b bs. refl) p bs

count_where : (p : Bid → Bool) (bs : List Bid) → length (keep p bs) ≡ sum_where p (λ b. 1) bs
count_where p bs = where_keep length (λ b. 1) refl (λ b bs. omega arith) p bs

-- no number rises: nor does the sum

cond_low : (t : Bool) (x y : ℕ) → y ≤ x → cond t y 0 ≤ cond t x 0
cond_low true x y h = h
cond_low false x y h = omega arith

where_low : (p : Bid → Bool) (f g : Bid → ℕ) → ((b : Bid) → g b ≤ f b) → (bs : List Bid) → sum_where p g bs ≤ sum_where p f bs
unfolding sum_where
where_low p f g low [] = omega arith
where_low p f g low (b ∷ bs) = omega (arith, where_low p f g low bs, cond_low (p b) (f b) (g b) (low b))

-- a test that an empty place does not pass
module _ (p : Bid → Bool) (none : p no_bid ≡ false) where
  -- the bid at a place that is not empty, and the other bids
  pub where_at : (f : Bid → ℕ) (bs : List Bid) (k : ℕ) (b : Bid)
      → 0 < (get_or bs k no_bid).amount
      → sum_where p f (set bs k b) ≡ cond (p b) (f b) 0 + sum_where p f (set bs k no_bid)
  unfolding sum_where
  where_at f [] k b some = absurd (omega arith)
  where_at f (x ∷ bs) zero b some = rw none (omega arith)
  where_at f (x ∷ bs) (suc k) b some = omega (arith, where_at f bs k b some)

  -- no bid's number rises, and that of one that passes falls by d or more
  pub where_falls : (f g : Bid → ℕ) (d : ℕ)
      → ((b : Bid) → g b ≤ f b)
      → (bs : List Bid) (k : ℕ)
      → p (get_or bs k no_bid) ≡ true
      → g (get_or bs k no_bid) + d ≤ f (get_or bs k no_bid)
      → sum_where p g bs + d ≤ sum_where p f bs
  unfolding sum_where
  where_falls f g d low [] k h less = absurd (false≢true (sym none ∙ h))
  where_falls f g d low (b ∷ bs) zero h less = rw h (omega (arith, where_low p f g low bs))
  where_falls f g d low (b ∷ bs) (suc k) h less = omega (arith, where_falls f g d low bs k h less, cond_low (p b) (f b) (g b) (low b))

  -- none that passes is above the sum
  pub where_one : (f : Bid → ℕ) (bs : List Bid) (k : ℕ) → p (get_or bs k no_bid) ≡ true → f (get_or bs k no_bid) ≤ sum_where p f bs
  where_one f bs k h = omega (arith, where_falls f (λ b. 0) (f (get_or bs k no_bid)) (λ b. omega arith) bs k h (omega arith))

count_set : (p : Bid → Bool) (bs : List Bid) (j k : ℕ) (b : Bid)
    → p b ≡ p (get_or bs j no_bid)
    → sum_where p (λ b. 1) (take k (set bs j b)) ≡ sum_where p (λ b. 1) (take k bs)
unfolding sum_where
count_set p [] j k b h = refl
count_set p (x ∷ bs) j zero b h = refl
count_set p (x ∷ bs) zero (suc k) b h = ap (λ (t : Bool). cond t 1 0 + sum_where p (λ b. 1) (take k bs)) h
count_set p (x ∷ bs) (suc j) (suc k) b h = ap (λ (n : ℕ). cond (p x) 1 0 + n) (count_set p bs j k b h)

-- as many pass before a place, where the bid at a place is another for which the test is the same
pub rank_set : (p : Bid → Bool) (bs : List Bid) (j k : ℕ) (b : Bid)
    → p b ≡ p (get_or bs j no_bid)
    → length (keep p (take k (set bs j b))) ≡ length (keep p (take k bs))
rank_set p bs j k b h = count_where p (take k (set bs j b)) ∙ count_set p bs j k b h ∙ sym (count_where p (take k bs))
