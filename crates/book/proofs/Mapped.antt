-- An array that a loop fills with what becomes of another array's elements. Assumes nothing.
use mathlib.Core.Path.{◌≡◌, refl, ◌∙◌}
use mathlib.Core.List.{List, [], ◌∷◌, ◌++◌, map}
use Prim.Native.Nat.{ℕ, zero, suc, ◌+◌, ◌≤◌, ◌<◌}
use native.Mathlib.Omega.{arith}
use lib.ListN.{length, take, drop, get_or, set, length-map}
use Rattle.laws.proofs.Arrays.{fill_more, fill_all}

module _ {A B : Type 0} (f : A → B) where
  -- what becomes of the element at an index
  pub mapped_at : (l : List A) (i : ℕ) (d : A) (z : B) → i < length l → f (get_or l i d) ≡ get_or (map f l) i z
  mapped_at [] i d z h = absurd (let y : ◌≡◌ {A = ℕ} 0 1 = omega arith in omega arith)
  mapped_at (x ∷ l) zero d z h = refl
  mapped_at (x ∷ l) (suc i) d z h = mapped_at l i d z (omega arith)

  -- the first i elements are written
  abbrev pub MappedTo : List A → List B → List B → ℕ → Type 0
  MappedTo l old cur i = (i ≤ length l) × (cur ≡ take i (map f l) ++ drop i old)

  module _ (l : List A) (old cur : List B) (i : ℕ) (d : A) (z : B) (same : length old ≡ length l) where
    -- one turn: what becomes of the element at i is stored
    pub mapped_more : i < length l → MappedTo l old cur i → MappedTo l old (set cur i (f (get_or l i d))) (i + 1)
    mapped_more h m =
        let long = length-map l f in
        (omega arith, fill_more (map f l) old cur i (f (get_or l i d)) z (omega arith) (omega arith) (mapped_at l i d z h) m.1)

    -- all elements are written
    pub mapped_all : length l ≤ i → MappedTo l old cur i → cur ≡ map f l
    mapped_all h m = let long = length-map l f in m.1 ∙ fill_all (map f l) old i (omega arith) (omega arith)
