-- Awards that are given and cents that are dropped: what they make together, how many they are, and that zeros behind them change nothing. Assumes nothing.
use mathlib.Core.Path.{◌≡◌, refl, ap, ap₂, ◌∙◌}
use mathlib.Core.Bool.{Bool, true, false, cond}
use mathlib.Core.List.{List, [], ◌∷◌, ◌++◌, map}
use Prim.Native.Nat.{ℕ, zero, suc, ◌+◌}
use native.Mathlib.Omega.{arith}
use lib.ListN.{length, replicate}
use Rattle.rules.specs.Allotment.{keep, sum}
use Rattle.smallest_award.specs.SmallestAward.{is_dropped, given_award, given_awards, dropped_cents}
use Rattle.smallest_award.specs.Theorems.{GivenAndDropped}

-- an award and those after it: it is given or its cents are dropped
pub given_next : (m a : ℕ) (xs : List ℕ) → given_awards m (a ∷ xs) ≡ given_award m a ∷ given_awards m xs
unfolding given_awards
given_next m a xs = refl

pub dropped_next : (m a : ℕ) (xs : List ℕ) → given_award m a + dropped_cents m (a ∷ xs) ≡ a + dropped_cents m xs
unfolding given_award dropped_cents keep sum
dropped_next m a xs = go (is_dropped m a)
  where
    go : (t : Bool) → cond t 0 a + sum (cond t (a ∷ keep (is_dropped m) xs) (keep (is_dropped m) xs)) ≡ a + sum (keep (is_dropped m) xs)
    go true = omega arith
    go false = refl

pub given_and_dropped : GivenAndDropped
unfolding sum keep given_awards dropped_cents
given_and_dropped m [] = refl
given_and_dropped m (a ∷ xs) = omega (arith, ap sum (given_next m a xs), dropped_next m a xs, given_and_dropped m xs)

pub length-given : (m : ℕ) (xs : List ℕ) → length (given_awards m xs) ≡ length xs
unfolding given_awards
length-given m [] = refl
length-given m (a ∷ xs) = ap suc (length-given m xs)

-- zeros behind the awards are zeros behind those given, and drop nothing
pub given_zeros : (m : ℕ) (xs : List ℕ) (k : ℕ) → given_awards m (xs ++ replicate k 0) ≡ given_awards m xs ++ replicate k 0
unfolding given_awards given_award is_dropped
given_zeros m [] zero = refl
given_zeros m [] (suc k) = ap (λ (l : List ℕ). 0 ∷ l) (given_zeros m [] k)
given_zeros m (a ∷ xs) k = ap (λ (l : List ℕ). given_award m a ∷ l) (given_zeros m xs k)

kept_zeros : (m : ℕ) (xs : List ℕ) (k : ℕ) → keep (is_dropped m) (xs ++ replicate k 0) ≡ keep (is_dropped m) xs
unfolding keep is_dropped
kept_zeros m [] zero = refl
kept_zeros m [] (suc k) = kept_zeros m [] k
kept_zeros m (a ∷ xs) k = ap (λ (l : List ℕ). cond (is_dropped m a) (a ∷ l) l) (kept_zeros m xs k)

pub dropped_zeros : (m : ℕ) (xs : List ℕ) (k : ℕ) → dropped_cents m (xs ++ replicate k 0) ≡ dropped_cents m xs
unfolding dropped_cents
dropped_zeros m xs k = ap sum (kept_zeros m xs k)
