-- One award below the minimum or not, and lists of them. Assumes nothing.
use mathlib.Core.Path.{◌≡◌, refl, ap, ap₂, ◌∙◌}
use mathlib.Core.Bool.{Bool, true, false, cond, ◌&&◌, ◌||◌}
use mathlib.Core.List.{List, [], ◌∷◌, ◌++◌}
use Prim.Native.Nat.{ℕ, zero, suc, ◌≤◌, ◌<◌}
use native.Mathlib.Omega.{arith}
use lib.Dec.{eqb, ltb}
use lib.ListN.{get_or, take, drop, replicate, get_or-map}
use borrow.Author.Tests.{lt-ltb, le-ltb, ltb-true, ltb-false, eqb-true}
use Rattle.laws.proofs.Tests.{or_cases}
use Rattle.rules.specs.Allotment.{keep, sum}
use Rattle.smallest_award.specs.SmallestAward.{is_dropped, given_award, given_awards, dropped_cents}
use Rattle.smallest_award.proofs.SmallestAward.{dropped_next}
use Rattle.smallest_award.specs.Theorems.{EachByItself, DropsNothing}

-- an award below the minimum, and one that is not
pub given_below : (m a : ℕ) → a < m → given_award m a ≡ 0
unfolding given_award is_dropped
given_below m a h = go (ltb 0 a) refl
  where
    go : (t : Bool) → ltb 0 a ≡ t → cond (t && ltb a m) 0 a ≡ 0
    go true e = ap (λ (x : Bool). cond {A = ℕ} x 0 a) (lt-ltb a m h)
    go false e = omega (arith, ltb-false 0 a e)

pub given-whole : (m a : ℕ) → m ≤ a → given_award m a ≡ a
unfolding given_award is_dropped
given-whole m a h = go (ltb 0 a)
  where
    go : (t : Bool) → cond (t && ltb a m) 0 a ≡ a
    go true = ap (λ (x : Bool). cond {A = ℕ} x 0 a) (le-ltb a m h)
    go false = refl

-- whichever it is
pub given_cases : (m a : ℕ) {P : Type 0} → (a < m → given_award m a ≡ 0 → P) → (m ≤ a → given_award m a ≡ a → P) → P
given_cases m a {P} below whole = go (ltb a m) refl
  where
    go : (t : Bool) → ltb a m ≡ t → P
    go true e = below (ltb-true a m e) (given_below m a (ltb-true a m e))
    go false e = whole (ltb-false a m e) (given-whole m a (ltb-false a m e))

pub given_le : (m a : ℕ) → given_award m a ≤ a
given_le m a = given_cases m a (λ h e. omega (arith, e)) (λ h e. omega (arith, e))

-- the award given at a place
pub given_at : (m : ℕ) (xs : List ℕ) (k : ℕ) → get_or (given_awards m xs) k 0 ≡ given_award m (get_or xs k 0)
unfolding given_awards given_award is_dropped
given_at m xs k = get_or-map (given_award m) xs k 0

pub each_by_itself : EachByItself
each_by_itself m xs k = (λ h. rw (given_at m xs k) (given_below m (get_or xs k 0) h), λ h. rw (given_at m xs k) (given-whole m (get_or xs k 0) h))

-- a part of the awards comes to no more once they are given
pub first_le : (m : ℕ) (xs : List ℕ) (j : ℕ) → sum (take j (given_awards m xs)) ≤ sum (take j xs)
unfolding sum given_awards
first_le m [] zero = omega arith
first_le m [] (suc j) = omega arith
first_le m (x ∷ xs) zero = omega arith
first_le m (x ∷ xs) (suc j) = omega (arith, given_le m x, first_le m xs j)

pub part_le : (m : ℕ) (xs : List ℕ) (j n : ℕ) → sum (take j (drop n (given_awards m xs))) ≤ sum (take j (drop n xs))
unfolding given_awards
part_le m xs j zero = first_le m xs j
part_le m [] j (suc n) = first_le m [] j
part_le m (x ∷ xs) j (suc n) = part_le m xs j n

-- where the minimum is at most a cent nothing is dropped
all-given : (m a : ℕ) → m ≤ 1 → given_award m a ≡ a
all-given m a h = given_cases m a (λ l e. omega (arith, e)) (λ l e. e)

none_counted : (m : ℕ) (xs : List ℕ) → m ≤ 1 → dropped_cents m xs ≡ 0
unfolding dropped_cents keep sum
none_counted m [] h = refl
none_counted m (a ∷ xs) h = omega (arith, all-given m a h, dropped_next m a xs, none_counted m xs h)

same-awards : (m : ℕ) (xs : List ℕ) → m ≤ 1 → given_awards m xs ≡ xs
unfolding given_awards
same-awards m [] h = refl
same-awards m (a ∷ xs) h = ap₂ (λ (x : ℕ) (l : List ℕ). x ∷ l) (all-given m a h) (same-awards m xs h)

pub drops_nothing : DropsNothing
drops_nothing m xs h = (same-awards m xs h, none_counted m xs h)

-- zeros behind a list change no entry
pub zeros_behind : (xs : List ℕ) (n k : ℕ) → get_or (xs ++ replicate n 0) k 0 ≡ get_or xs k 0
zeros_behind [] zero k = refl
zeros_behind [] (suc n) zero = refl
zeros_behind [] (suc n) (suc k) = zeros_behind [] n k
zeros_behind (x ∷ xs) n zero = refl
zeros_behind (x ∷ xs) n (suc k) = zeros_behind xs n k

-- an award that was given above zero, and any where no cents were dropped, is as it was before
dropped_none : (m : ℕ) (xs : List ℕ) → dropped_cents m xs ≡ 0 → (k : ℕ) → get_or (given_awards m xs) k 0 ≡ get_or xs k 0
unfolding given_awards
dropped_none m [] h k = refl
dropped_none m (x ∷ xs) h zero = omega (arith, dropped_next m x xs, given_le m x)
dropped_none m (x ∷ xs) h (suc k) = dropped_none m xs (omega (arith, dropped_next m x xs, given_le m x)) k

pub undropped_at : (m : ℕ) (xs : List ℕ) (k : ℕ) → (eqb (dropped_cents m xs) 0 || ltb 0 (get_or (given_awards m xs) k 0)) ≡ true → get_or (given_awards m xs) k 0 ≡ get_or xs k 0
undropped_at m xs k h =
    or_cases (eqb (dropped_cents m xs) 0) (ltb 0 (get_or (given_awards m xs) k 0)) h
    (λ e. dropped_none m xs (eqb-true (dropped_cents m xs) 0 e) k)
    (λ e.
    let above = ltb-true 0 (get_or (given_awards m xs) k 0) e in
    given_cases m (get_or xs k 0) (λ l z. omega (arith, above, given_at m xs k, z)) (λ l z. given_at m xs k ∙ z))
