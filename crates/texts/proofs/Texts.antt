-- Laws of texts. Assumes nothing.
use mathlib.Core.Path.{◌≡◌, refl, sym, ap, ap₂}
use mathlib.Core.Bool.{Bool, true, false, ◌&&◌, and_assoc, and-true, false≢true}
use mathlib.Core.List.{List, [], ◌∷◌}
use Prim.Native.Nat.{ℕ, suc, ◌+◌, ◌≤◌, ◌<◌}
use native.Mathlib.Numerals.{add-one}
use lib.Dec.{eqb}
use lib.ListN.{length, drop, get_or, drop_of_length-le}
use lib.Seq.{drop-cons}
use borrow.Author.Tests.{eqb-true, eq-eqb}
use Rattle.laws.proofs.Tests.{and_left, and_right}
use Rattle.texts.specs.Texts.{same_text}

-- texts of other lengths are others
pub other_length : (s t : List ℕ) → (length s ≡ length t → ⊥) → false ≡ same_text s t
unfolding same_text
other_length [] [] h = absurd (h refl)
other_length [] (b ∷ t) h = refl
other_length (a ∷ s) [] h = refl
other_length (a ∷ s) (b ∷ t) h = rw (← other_length s t (λ e. h (ap suc e))) (sym (and-false (eqb a b)))
  where
    and-false : (x : Bool) → x && false ≡ false
    and-false true = refl
    and-false false = refl

-- the loop: one more byte, and the end
pub same_more : (ok : Bool) (s t : List ℕ) (i : ℕ) → i < length s → i < length t → ((ok && eqb (get_or s i 0) (get_or t i 0)) && same_text (drop (i + 1) s) (drop (i + 1) t)) ≡ (ok && same_text (drop i s) (drop i t))
unfolding same_text
same_more ok s t i h k = rw (drop-cons s i 0 h, drop-cons t i 0 k, add-one) (and_assoc ok (eqb (get_or s i 0) (get_or t i 0)) (same_text (drop (suc i) s) (drop (suc i) t)))

pub same_end : (ok : Bool) (s t : List ℕ) (i : ℕ) → length s ≤ i → length t ≤ i → (ok && same_text (drop i s) (drop i t)) ≡ ok
unfolding same_text
same_end ok s t i h k = rw (drop_of_length-le s h, drop_of_length-le t k) (and-true ok)

-- what the test says
pub same_is : (s t : List ℕ) → same_text s t ≡ true → s ≡ t
unfolding same_text
same_is [] [] h = refl
same_is [] (b ∷ t) h = absurd (false≢true h)
same_is (a ∷ s) [] h = absurd (false≢true h)
same_is (a ∷ s) (b ∷ t) h = ap₂ (λ (x : ℕ) (l : List ℕ). x ∷ l) (eqb-true a b (and_left (eqb a b) (same_text s t) h)) (same_is s t (and_right (eqb a b) (same_text s t) h))

pub is_same : (s : List ℕ) → same_text s s ≡ true
unfolding same_text
is_same [] = refl
is_same (a ∷ s) = rw (eq-eqb a a refl) (is_same s)
