-- What holds of the bids that `keep` takes from a list, and of their totals. Assumes nothing.
use mathlib.Core.Path.{◌≡◌, refl, sym, ap, ◌∙◌}
use mathlib.Core.Logic.{◌⊎◌, inl, inr}
use mathlib.Core.Bool.{Bool, true, false, cond, false≢true}
use mathlib.Core.List.Memᴰ
use mathlib.Core.List.{List, [], ◌∷◌, ◌++◌, Memᴰ}
use Prim.Native.Nat.{ℕ, suc, ◌+◌, ◌≤◌, ◌<◌}
use native.Mathlib.Omega.{arith}
use lib.ListN.{length}
use Rattle.rules.specs.Allotment.{Bid, keep, total}

-- members

pub mem_keep : {A : Type 0} (p : A → Bool) (xs : List A) {x : A} → Memᴰ x (keep p xs) → Memᴰ x xs × (p x ≡ true)
unfolding keep
mem_keep p [] m = absurd (Memᴰ.not-nil m)
mem_keep {A} p (y ∷ xs) {x} m = go (p y) refl (λ k. mem_keep p xs k) m
  where
    go : (t : Bool) → p y ≡ t → (Memᴰ x (keep p xs) → Memᴰ x xs × (p x ≡ true))
        → Memᴰ x (cond t (y ∷ keep p xs) (keep p xs)) → Memᴰ x (y ∷ xs) × (p x ≡ true)
    go true e ih (Memᴰ.head q) = (Memᴰ.head q, ap p q ∙ e)
    go true e ih (Memᴰ.tail k) = (Memᴰ.tail (ih k).0, (ih k).1)
    go false e ih k = (Memᴰ.tail (ih k).0, (ih k).1)

pub keep_mem : {A : Type 0} (p : A → Bool) (xs : List A) {x : A} → Memᴰ x xs → p x ≡ true → Memᴰ x (keep p xs)
unfolding keep
keep_mem p [] m e = absurd (Memᴰ.not-nil m)
keep_mem {A} p (y ∷ xs) {x} m e = go (p y) refl (Memᴰ.cases_cons m) (λ k. keep_mem p xs k e)
  where
    go : (t : Bool) → p y ≡ t → (x ≡ y) ⊎ Memᴰ x xs → (Memᴰ x xs → Memᴰ x (keep p xs))
        → Memᴰ x (cond t (y ∷ keep p xs) (keep p xs))
    go true f (inl q) ih = Memᴰ.head q
    go true f (inr k) ih = Memᴰ.tail (ih k)
    go false f (inl q) ih = absurd (false≢true (sym f ∙ ap p (sym q) ∙ e))
    go false f (inr k) ih = ih k

-- two tests that agree on a list
abbrev pub Agree : (p q : Bid → Bool) → List Bid → Type 0
Agree p q bs = (b : Bid) → Memᴰ b bs → p b ≡ q b

pub keep_agree : (p q : Bid → Bool) (bs : List Bid) → Agree p q bs → keep p bs ≡ keep q bs
unfolding keep
keep_agree p q [] h = refl
keep_agree p q (b ∷ bs) h = rw (h b (Memᴰ.head refl), keep_agree p q bs (λ c m. h c (Memᴰ.tail m)))

-- totals

pub total_cons : (p : Bid → Bool) (b : Bid) (bs : List Bid) → total (keep p (b ∷ bs)) ≡ cond (p b) b.amount 0 + total (keep p bs)
unfolding total keep
total_cons p b bs = go (p b)
  where
    go : (t : Bool) → total (cond t (b ∷ keep p bs) (keep p bs)) ≡ cond t b.amount 0 + total (keep p bs)
    go true = refl
    go false = omega arith

-- each bid that passes p passes one of q and r, and no bid both
abbrev pub Split : (p q r : Bid → Bool) → Type 0
Split p q r = (b : Bid) (x : ℕ) → cond (p b) x 0 ≡ cond (q b) x 0 + cond (r b) x 0

pub total_split : (p q r : Bid → Bool) → Split p q r → (bs : List Bid) → total (keep p bs) ≡ total (keep q bs) + total (keep r bs)
unfolding total keep
total_split p q r s [] = refl
total_split p q r s (b ∷ bs) =
    omega (arith, total_split p q r s bs, total_cons p b bs, total_cons q b bs, total_cons r b bs, s b b.amount)

-- lengths

pub length_last : (p : Bid → Bool) (bs : List Bid) (b : Bid) → length (keep p (bs ++ (b ∷ []))) ≡ length (keep p bs) + cond (p b) 1 0
unfolding keep
length_last p [] b = go (p b)
  where
    go : (t : Bool) → length (cond t (b ∷ []) []) ≡ 0 + cond t 1 0
    go true = refl
    go false = refl
length_last p (c ∷ bs) b = go (p c) (length_last p bs b)
  where
    go : (t : Bool) → length (keep p (bs ++ (b ∷ []))) ≡ length (keep p bs) + cond (p b) 1 0
        → length (cond t (c ∷ keep p (bs ++ (b ∷ []))) (keep p (bs ++ (b ∷ [])))) ≡ length (cond t (c ∷ keep p bs) (keep p bs)) + cond (p b) 1 0
    go true ih = omega arith
    go false ih = ih

pub length-keep : (p : Bid → Bool) (bs : List Bid) → length (keep p bs) ≤ length bs
unfolding keep
length-keep p [] = omega arith
length-keep p (x ∷ bs) = go (p x) (length-keep p bs)
  where
    go : (t : Bool) → length (keep p bs) ≤ length bs → length (cond t (x ∷ keep p bs) (keep p bs)) ≤ suc (length bs)
    go true ih = omega arith
    go false ih = omega arith

-- where p implies q, q keeps as many; and more, where a bid passes only q
length_le : (p q : Bid → Bool) (bs : List Bid) → ((b : Bid) → p b ≡ true → q b ≡ true) → length (keep p bs) ≤ length (keep q bs)
unfolding keep
length_le p q [] h = omega arith
length_le p q (x ∷ bs) h = go (p x) (q x) (h x) (length_le p q bs h)
  where
    go : (s t : Bool) → (s ≡ true → t ≡ true) → length (keep p bs) ≤ length (keep q bs)
        → length (cond s (x ∷ keep p bs) (keep p bs)) ≤ length (cond t (x ∷ keep q bs) (keep q bs))
    go true true i ih = omega arith
    go true false i ih = absurd (false≢true (i refl))
    go false true i ih = omega arith
    go false false i ih = ih

pub length_lt : (p q : Bid → Bool) (bs : List Bid) → ((b : Bid) → p b ≡ true → q b ≡ true)
    → (y : Bid) → Memᴰ y bs → p y ≡ false → q y ≡ true → length (keep p bs) < length (keep q bs)
unfolding keep
length_lt p q [] h y m e f = absurd (Memᴰ.not-nil m)
length_lt p q (x ∷ bs) h y (Memᴰ.head k) e f = rw (ap p (sym k) ∙ e, ap q (sym k) ∙ f) (omega (arith, length_le p q bs h))
length_lt p q (x ∷ bs) h y (Memᴰ.tail k) e f = go (p x) (q x) (h x) (length_lt p q bs h y k e f)
  where
    go : (s t : Bool) → (s ≡ true → t ≡ true) → length (keep p bs) < length (keep q bs)
        → length (cond s (x ∷ keep p bs) (keep p bs)) < length (cond t (x ∷ keep q bs) (keep q bs))
    go true true i ih = omega arith
    go true false i ih = absurd (false≢true (i refl))
    go false true i ih = omega arith
    go false false i ih = ih
