-- Arrays: one that a loop fills from the front, and the length of one of structs. Assumes nothing.
use mathlib.Core.Path.{◌≡◌, refl, sym, ap, ◌∙◌}
use mathlib.Core.List.{List, [], ◌∷◌, ◌++◌, map, append-nil}
use Prim.Native.Nat.{ℕ, zero, suc, ◌+◌, ◌≤◌, ◌<◌}
use native.Mathlib.Nat.{not-suc-le-zero, le_of_suc-le-suc}
use native.Mathlib.Numerals.{add-one}
use lib.ListN.{length, take, drop, get_or, set, length-map, drop_of_length-le}
use lib.Seq.{take_all}

module _ {A : Type 0} where
  fill_suc : (src dst : List A) (i : ℕ) (d : A) → i < length src → i < length dst → set (take i src ++ drop i dst) i (get_or src i d) ≡ take (suc i) src ++ drop (suc i) dst
  fill_suc [] dst i d h k = absurd (not-suc-le-zero h)
  fill_suc (x ∷ xs) [] i d h k = absurd (not-suc-le-zero k)
  fill_suc (x ∷ xs) (y ∷ ys) zero d h k = refl
  fill_suc (x ∷ xs) (y ∷ ys) (suc i) d h k = ap (λ (l : List A). x ∷ l) (fill_suc xs ys i d (le_of_suc-le-suc h) (le_of_suc-le-suc k))

  -- one turn: the entry at i is stored
  pub fill_more : (src dst cur : List A) (i : ℕ) (v d : A) → i < length src → i < length dst → v ≡ get_or src i d → cur ≡ take i src ++ drop i dst → set cur i v ≡ take (i + 1) src ++ drop (i + 1) dst
  fill_more src dst cur i v d h k e c = rw (c, e, add-one) (fill_suc src dst i d h k)

  -- all entries are stored
  pub fill_all : (src dst : List A) (n : ℕ) → length src ≤ n → length dst ≤ n → take n src ++ drop n dst ≡ src
  fill_all src dst n h k = rw (take_all n src h, drop_of_length-le dst {i = n} k) (append-nil src)

-- what is known of the values in an array of structs says the array's length
pub length_mapped : (X Y : Type 0) (f : X → Y) (l : List X) (n : ℕ) → length (map f l) ≡ n → length l ≡ n
length_mapped X Y f l n p = sym (length-map l f) ∙ p
