-- The order of the walk: the placed bids sorted best first, equal rates by place, and the same ones as before. Assumes nothing.
use mathlib.Core.Path.{◌≡◌, refl, sym, ◌∙◌, ap, ap₂, subst}
use mathlib.Core.Logic.{◌⊎◌, inl, inr}
use mathlib.Core.Bool.{Bool, true, false, cond, ◌&&◌, ◌||◌, and-false, false≢true}
use mathlib.Core.List.Memᴰ
use mathlib.Core.List.{List, [], ◌∷◌, Memᴰ}
use Prim.Native.Nat.{ℕ, suc, ◌≤◌, ◌<◌}
use native.Mathlib.Omega.{arith}
use lib.Dec.{ltb, eqb}
use borrow.Author.Tests.{lt-ltb, le-ltb, eq-eqb, ne_eqb}
use Rattle.laws.proofs.Tests.{or_left}
use Rattle.announcement.specs.declared.Side.{Side}
use Rattle.rules.specs.Allotment.{Bid, better_rate, keep}
use Rattle.rules.proofs.Kept.{mem_keep}
use Rattle.rules.proofs.Rates.{not_itself, not_both, same-rate, not_better}
use Rattle.credit_limits.specs.Walk.{PlacedBid, placed_from, insert, best_first}

-- members

mem_insert : (d : Side) (x : PlacedBid) (ys : List PlacedBid) {z : PlacedBid} → (z ≡ x) ⊎ Memᴰ z ys → Memᴰ z (insert d x ys)
unfolding insert
mem_insert d x [] (inl e) = Memᴰ.head e
mem_insert d x [] (inr m) = absurd (Memᴰ.not-nil m)
mem_insert d x (y ∷ ys) {z} h = go (better_rate d y.bid.rate x.bid.rate) h (λ k. mem_insert d x ys k)
  where
    next : ((z ≡ x) ⊎ Memᴰ z ys → Memᴰ z (insert d x ys)) → (z ≡ y) ⊎ Memᴰ z ys → Memᴰ z (y ∷ insert d x ys)
    next ih (inl e) = Memᴰ.head e
    next ih (inr k) = Memᴰ.tail (ih (inr k))

    go : (t : Bool)
        → (z ≡ x) ⊎ Memᴰ z (y ∷ ys)
        → ((z ≡ x) ⊎ Memᴰ z ys → Memᴰ z (insert d x ys))
        → Memᴰ z (cond t (y ∷ insert d x ys) (x ∷ y ∷ ys))
    go true (inl e) ih = Memᴰ.tail (ih (inl e))
    go true (inr m) ih = next ih (Memᴰ.cases_cons m)
    go false (inl e) ih = Memᴰ.head e
    go false (inr m) ih = Memᴰ.tail m

insert_mem : (d : Side) (x : PlacedBid) (ys : List PlacedBid) {z : PlacedBid} → Memᴰ z (insert d x ys) → (z ≡ x) ⊎ Memᴰ z ys
unfolding insert
insert_mem d x [] m = Memᴰ.cases_cons m
insert_mem d x (y ∷ ys) {z} m = go (better_rate d y.bid.rate x.bid.rate) (λ k. insert_mem d x ys k) m
  where
    past : (z ≡ x) ⊎ Memᴰ z ys → (z ≡ x) ⊎ Memᴰ z (y ∷ ys)
    past (inl e) = inl e
    past (inr k) = inr (Memᴰ.tail k)

    next : (Memᴰ z (insert d x ys) → (z ≡ x) ⊎ Memᴰ z ys) → (z ≡ y) ⊎ Memᴰ z (insert d x ys) → (z ≡ x) ⊎ Memᴰ z (y ∷ ys)
    next ih (inl e) = inr (Memᴰ.head e)
    next ih (inr k) = past (ih k)

    go : (t : Bool)
        → (Memᴰ z (insert d x ys) → (z ≡ x) ⊎ Memᴰ z ys)
        → Memᴰ z (cond t (y ∷ insert d x ys) (x ∷ y ∷ ys))
        → (z ≡ x) ⊎ Memᴰ z (y ∷ ys)
    go true ih k = next ih (Memᴰ.cases_cons k)
    go false ih k = Memᴰ.cases_cons k

pub mem_best : (d : Side) (xs : List PlacedBid) {z : PlacedBid} → Memᴰ z xs → Memᴰ z (best_first d xs)
unfolding best_first
mem_best d [] m = absurd (Memᴰ.not-nil m)
mem_best d (x ∷ xs) (Memᴰ.head e) = mem_insert d x (best_first d xs) (inl e)
mem_best d (x ∷ xs) (Memᴰ.tail m) = mem_insert d x (best_first d xs) (inr (mem_best d xs m))

best_mem : (d : Side) (xs : List PlacedBid) {z : PlacedBid} → Memᴰ z (best_first d xs) → Memᴰ z xs
unfolding best_first
best_mem d [] m = m
best_mem d (x ∷ xs) {z} m = go (insert_mem d x (best_first d xs) m) (λ k. best_mem d xs k)
  where
    go : (z ≡ x) ⊎ Memᴰ z (best_first d xs) → (Memᴰ z (best_first d xs) → Memᴰ z xs) → Memᴰ z (x ∷ xs)
    go (inl e) ih = Memᴰ.head e
    go (inr k) ih = Memᴰ.tail (ih k)

-- the order

-- y is walked after x
unfoldable pub walked_before : Side → PlacedBid → PlacedBid → Bool
walked_before d y x = better_rate d x.bid.rate y.bid.rate || (eqb x.bid.rate y.bid.rate && ltb x.place y.place)

-- x is walked before y, y not before x, and they stand at two places
pub record Before (d : Side) (x y : PlacedBid) : Type 0 where
  pub walks : walked_before d y x ≡ true
  pub back : walked_before d x y ≡ false
  pub apart : eqb x.place y.place ≡ false

-- at an earlier place, and not at a worse rate
before-place : (d : Side) (x y : PlacedBid) → x.place < y.place → better_rate d y.bid.rate x.bid.rate ≡ false → Before d x y
unfolding walked_before
before-place d x y l e =
    record {
      walks = go (better_rate d x.bid.rate y.bid.rate) refl;
      back =
          ap₂ ◌||◌ e
          (ap (λ (t : Bool). eqb y.bid.rate x.bid.rate && t) (le-ltb y.place x.place (omega arith)) ∙ and-false (eqb y.bid.rate x.bid.rate));
      apart = ne_eqb x.place y.place (λ h. omega arith);
    }
  where
    go : (t : Bool)
        → better_rate d x.bid.rate y.bid.rate ≡ t
        → t || (eqb x.bid.rate y.bid.rate && ltb x.place y.place) ≡ true
    go true f = refl
    go false f =
        ap₂ ◌&&◌ (eq-eqb x.bid.rate y.bid.rate (same-rate d x.bid.rate y.bid.rate f e)) (lt-ltb x.place y.place l)

-- a better rate is another one
better_other : (d : Side) (r s : ℕ) → better_rate d r s ≡ true → eqb s r ≡ false
better_other d r s h = ne_eqb s r (λ e. false≢true (sym (not_itself d r) ∙ ap (better_rate d r) (sym e) ∙ h))

-- at a better rate
before-rate : (d : Side) (x y : PlacedBid) → y.place < x.place → better_rate d x.bid.rate y.bid.rate ≡ true → Before d x y
unfolding walked_before
before-rate d x y l e =
    record {
      walks = ap (λ (t : Bool). t || (eqb x.bid.rate y.bid.rate && ltb x.place y.place)) e;
      back =
          ap₂ ◌||◌ (not_both d x.bid.rate y.bid.rate e)
          (ap (λ (t : Bool). t && ltb y.place x.place) (better_other d x.bid.rate y.bid.rate e));
      apart = ne_eqb x.place y.place (λ h. omega arith);
    }

not_worse_lem : (d : Side) (x y : PlacedBid) → Before d x y → better_rate d y.bid.rate x.bid.rate ≡ false
unfolding walked_before
not_worse_lem d x y h =
    or_left (better_rate d y.bid.rate x.bid.rate) (eqb y.bid.rate x.bid.rate && ltb y.place x.place) h.back

pub not_before_itself : (d : Side) (x : PlacedBid) → walked_before d x x ≡ false
unfolding walked_before
not_before_itself d x =
    ap₂ ◌||◌ (not_itself d x.bid.rate)
    (ap (λ (t : Bool). eqb x.bid.rate x.bid.rate && t) (le-ltb x.place x.place (omega arith)) ∙ and-false (eqb x.bid.rate x.bid.rate))

-- each stands so to all after it
pub data Sorted (R : PlacedBid → PlacedBid → Type 0) : List PlacedBid → Type 0 where
  none : Sorted R []
  next : {x : PlacedBid} {xs : List PlacedBid} → ((y : PlacedBid) → Memᴰ y xs → R x y) → Sorted R xs → Sorted R (x ∷ xs)

insert_sorted : (d : Side) (x : PlacedBid) (ys : List PlacedBid)
    → ((y : PlacedBid) → Memᴰ y ys → x.place < y.place)
    → Sorted (Before d) ys
    → Sorted (Before d) (insert d x ys)
unfolding insert
insert_sorted d x [] h none = next (λ y m. absurd (Memᴰ.not-nil m)) none
insert_sorted d x (y ∷ ys) h (next all s) = go (better_rate d y.bid.rate x.bid.rate) refl (insert_sorted d x ys (λ z m. h z (Memᴰ.tail m)) s)
  where
    first : better_rate d y.bid.rate x.bid.rate ≡ true → (z : PlacedBid) → (z ≡ x) ⊎ Memᴰ z ys → Before d y z
    first e z (inl q) = subst (λ (w : PlacedBid). Before d y w) (sym q) (before-rate d y x (h y (Memᴰ.head refl)) e)
    first e z (inr m) = all z m

    second : better_rate d y.bid.rate x.bid.rate ≡ false → (z : PlacedBid) → Memᴰ z (y ∷ ys) → (z ≡ y) ⊎ Memᴰ z ys → Before d x z
    second e z m (inl q) = subst (λ (w : PlacedBid). Before d x w) (sym q) (before-place d x y (h y (Memᴰ.head refl)) e)
    second e z m (inr k) =
        before-place d x z (h z m) (not_better d z.bid.rate y.bid.rate x.bid.rate (not_worse_lem d y z (all z k)) e)

    go : (t : Bool)
        → better_rate d y.bid.rate x.bid.rate ≡ t
        → Sorted (Before d) (insert d x ys)
        → Sorted (Before d) (cond t (y ∷ insert d x ys) (x ∷ y ∷ ys))
    go true e ih = next (λ z m. first e z (insert_mem d x ys m)) ih
    go false e ih = next (λ z m. second e z m (Memᴰ.cases_cons m)) (next all s)

-- from rising places

abbrev pub Earlier : PlacedBid → PlacedBid → Type 0
Earlier x y = x.place < y.place

pub best_sorted : (d : Side) (xs : List PlacedBid) → Sorted Earlier xs → Sorted (Before d) (best_first d xs)
unfolding best_first
best_sorted d [] none = none
best_sorted d (x ∷ xs) (next all s) = insert_sorted d x (best_first d xs) (λ y m. all y (best_mem d xs m)) (best_sorted d xs s)

placed_after : (k : ℕ) (bs : List Bid) (y : PlacedBid) → Memᴰ y (placed_from k bs) → k ≤ y.place
unfolding placed_from
placed_after k [] y m = absurd (Memᴰ.not-nil m)
placed_after k (b ∷ bs) y (Memᴰ.head e) = omega (arith, ap {B = ℕ} (λ (x : PlacedBid). x.place) e)
placed_after k (b ∷ bs) y (Memᴰ.tail m) = omega (arith, placed_after (suc k) bs y m)

pub placed_rising : (k : ℕ) (bs : List Bid) → Sorted Earlier (placed_from k bs)
unfolding placed_from
placed_rising k [] = none
placed_rising k (b ∷ bs) = next (λ y m. after y (placed_after (suc k) bs y m)) (placed_rising (suc k) bs)
  where
    after : (y : PlacedBid) → suc k ≤ y.place → k < y.place
    after y l = omega arith

pub keep-rising : (p : PlacedBid → Bool) (xs : List PlacedBid) → Sorted Earlier xs → Sorted Earlier (keep p xs)
unfolding keep
keep-rising p [] none = none
keep-rising p (x ∷ xs) (next all s) = go (p x) (keep-rising p xs s)
  where
    go : (t : Bool) → Sorted Earlier (keep p xs) → Sorted Earlier (cond t (x ∷ keep p xs) (keep p xs))
    go true ih = next (λ y m. all y (mem_keep p xs m).0) ih
    go false ih = ih
