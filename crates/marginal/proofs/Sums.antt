-- Sums over the first numbers of a list compared, and what the bids weigh that pass a test. Assumes nothing.
use mathlib.Core.Path.{◌≡◌, refl, ap}
use mathlib.Core.Bool.{Bool, true, false, ◌&&◌, cond}
use mathlib.Core.List.Memᴰ
use mathlib.Core.List.{List, [], ◌∷◌, ◌++◌, Memᴰ}
use Prim.Native.Nat.{ℕ, zero, suc, ◌+◌, ◌≤◌, ◌<◌}
use native.Mathlib.Omega.{arith}
use lib.ListN.{length, get_or, take}
use Rattle.sort.specs.Sorting.{weight_of}
use Rattle.rules.specs.Allotment.{Bid, keep, total}
use Rattle.marginal.specs.Ranks.{weight}

pub cond_le : (t : Bool) (n : ℕ) → cond t n 0 ≤ n
cond_le true n = omega arith
cond_le false n = omega arith

-- the first j numbers are within all by weights that are not less for those j
pub sum-within : (v w : ℕ → ℕ) (l : List ℕ) (j : ℕ) → ((i : ℕ) → i < j → i < length l → v (get_or l i 0) ≤ w (get_or l i 0)) → weight_of v (take j l) ≤ weight_of w l
unfolding weight_of
sum-within v w l zero h = omega arith
sum-within v w [] (suc j) h = omega arith
sum-within v w (n ∷ l) (suc j) h = omega (arith, h 0 (omega arith) (omega arith), sum-within v w l j (λ i s t. h (suc i) (omega arith) (omega arith)))

-- all are within the first j, where the other numbers weigh nothing
pub sum_stops : (v w : ℕ → ℕ) (l : List ℕ) (j : ℕ) → ((i : ℕ) → i < j → w (get_or l i 0) ≤ v (get_or l i 0))
    → ((i : ℕ) → j ≤ i → i < length l → w (get_or l i 0) ≡ 0) → weight_of w l ≤ weight_of v (take j l)
unfolding weight_of
sum_stops v w [] j h k = omega arith
sum_stops v w (n ∷ l) zero h k =
    omega (arith, k 0 (omega arith) (omega arith), sum_stops v w l zero (λ i s. absurd (omega arith)) (λ i s t. k (suc i) (omega arith) (omega arith)))
sum_stops v w (n ∷ l) (suc j) h k =
    omega (arith, h 0 (omega arith), sum_stops v w l j (λ i s. h (suc i) (omega arith)) (λ i s t. k (suc i) (omega arith) (omega arith)))

-- no number weighs anything: nor do they together
pub sum_none : (w : ℕ → ℕ) (l : List ℕ) → ((i : ℕ) → i < length l → w (get_or l i 0) ≡ 0) → weight_of w l ≤ 0
unfolding weight_of
sum_none w l h = sum_stops w w l 0 (λ i s. absurd (omega arith)) (λ i s t. h i t)

-- the bid weighs its amount
pub weight-amount : (bs : List Bid) → weight (λ b. b.amount) bs ≡ total bs
unfolding weight total
weight-amount [] = refl
weight-amount (b ∷ bs) = omega (arith, weight-amount bs)

-- the bid weighs its amount where it passes a test
pub weight_test : (p q : Bid → Bool) (bs : List Bid) → weight (λ b. cond (q b) b.amount 0) (keep p bs) ≡ total (keep (λ b. p b && q b) bs)
unfolding weight keep total
weight_test p q [] = refl
weight_test p q (x ∷ bs) = go (p x) (q x) refl (weight_test p q bs)
  where
    go : (s t : Bool) → q x ≡ t → weight (λ b. cond (q b) b.amount 0) (keep p bs) ≡ total (keep (λ b. p b && q b) bs)
        → weight (λ b. cond (q b) b.amount 0) (cond s (x ∷ keep p bs) (keep p bs))
        ≡ total (cond (s && q x) (x ∷ keep (λ b. p b && q b) bs) (keep (λ b. p b && q b) bs))
    go true true e ih = rw e (omega arith)
    go true false e ih = rw e (omega arith)
    go false t e ih = ih

-- what a bid of the list weighs is within what they weigh together
pub weight_member : (w : Bid → ℕ) (bs : List Bid) (b : Bid) → Memᴰ b bs → w b ≤ weight w bs
unfolding weight
weight_member w [] b m = absurd (Memᴰ.not-nil m)
weight_member w (x ∷ bs) b (Memᴰ.head e) = omega (arith, ap w e)
weight_member w (x ∷ bs) b (Memᴰ.tail m) = omega (arith, weight_member w bs b m)

-- one more bid
pub weight_more : (w : Bid → ℕ) (p : Bid → Bool) (bs : List Bid) (b : Bid) → weight w (keep p (bs ++ (b ∷ []))) ≡ weight w (keep p bs) + cond (p b) (w b) 0
unfolding weight keep
weight_more w p [] b = go (p b)
  where
    go : (t : Bool) → weight w (cond t (b ∷ []) []) ≡ 0 + cond t (w b) 0
    go true = omega arith
    go false = refl
weight_more w p (x ∷ bs) b = go (p x) (weight_more w p bs b)
  where
    go : (t : Bool) → weight w (keep p (bs ++ (b ∷ []))) ≡ weight w (keep p bs) + cond (p b) (w b) 0
        → weight w (cond t (x ∷ keep p (bs ++ (b ∷ []))) (keep p (bs ++ (b ∷ [])))) ≡ weight w (cond t (x ∷ keep p bs) (keep p bs)) + cond (p b) (w b) 0
    go true ih = omega arith
    go false ih = ih
