-- Lists mapped or rearranged, and membership in them. Assumes nothing.
use mathlib.Core.Path.{◌≡◌, refl, ap}
use mathlib.Core.Logic.{◌⊎◌, inl, inr}
use mathlib.Core.List.Memᴰ
use mathlib.Core.List.{List, [], ◌∷◌, map, Memᴰ}
use Rattle.rules.specs.ArrivalOrder.{Rearranged, nothing, keep-first, swap_first, and_then}

pub rearranged_back : {A : Type 0} {xs ys : List A} → Rearranged xs ys → Rearranged ys xs
rearranged_back nothing = nothing
rearranged_back (keep-first p) = keep-first (rearranged_back p)
rearranged_back swap_first = swap_first
rearranged_back (and_then p q) = and_then (rearranged_back q) (rearranged_back p)

pub rearranged_mem : {A : Type 0} {x : A} {xs ys : List A} → Rearranged xs ys → Memᴰ x xs → Memᴰ x ys
rearranged_mem nothing m = m
rearranged_mem {x = x} (keep-first {x = y} {ys = ys} p) m = go (Memᴰ.cases_cons m) (λ k. rearranged_mem p k)
  where
    go : {xs : List _} → (x ≡ y) ⊎ Memᴰ x xs → (Memᴰ x xs → Memᴰ x ys) → Memᴰ x (y ∷ ys)
    go (inl e) ih = Memᴰ.head e
    go (inr k) ih = Memᴰ.tail (ih k)
rearranged_mem {x = z} (swap_first {x = x} {y = y} {xs = xs}) m = go (Memᴰ.cases_cons m)
  where
    go₂ : (z ≡ y) ⊎ Memᴰ z xs → Memᴰ z (y ∷ x ∷ xs)
    go₂ (inl e) = Memᴰ.head e
    go₂ (inr k) = Memᴰ.tail (Memᴰ.tail k)

    go : (z ≡ x) ⊎ Memᴰ z (y ∷ xs) → Memᴰ z (y ∷ x ∷ xs)
    go (inl e) = Memᴰ.tail (Memᴰ.head e)
    go (inr k) = go₂ (Memᴰ.cases_cons k)
rearranged_mem (and_then p q) m = rearranged_mem q (rearranged_mem p m)

pub rearranged_map : {A B : Type 0} (f : A → B) {xs ys : List A} → Rearranged xs ys → Rearranged (map f xs) (map f ys)
rearranged_map f nothing = nothing
rearranged_map f (keep-first p) = keep-first (rearranged_map f p)
rearranged_map f swap_first = swap_first
rearranged_map f (and_then p q) = and_then (rearranged_map f p) (rearranged_map f q)

pub mem_map : {A B : Type 0} (f : A → B) (xs : List A) {y : B} → Memᴰ y (map f xs) → (x : A) × Memᴰ x xs × (y ≡ f x)
mem_map f [] m = absurd (Memᴰ.not-nil m)
mem_map f (x ∷ xs) (Memᴰ.head e) = (x, Memᴰ.head refl, e)
mem_map {A} {B} f (x ∷ xs) {y} (Memᴰ.tail m) = deeper (mem_map f xs m)
  where
    deeper : (z : A) × Memᴰ z xs × (y ≡ f z) → (z : A) × Memᴰ z (x ∷ xs) × (y ≡ f z)
    deeper t = (t.0, Memᴰ.tail t.1, t.2)

pub map_mem : {A B : Type 0} (f : A → B) (xs : List A) {x : A} → Memᴰ x xs → Memᴰ (f x) (map f xs)
map_mem f [] m = absurd (Memᴰ.not-nil m)
map_mem f (y ∷ xs) (Memᴰ.head e) = Memᴰ.head (ap f e)
map_mem f (y ∷ xs) (Memᴰ.tail m) = Memᴰ.tail (map_mem f xs m)
