-- Laws of words that are written one after the other. Assumes nothing.
use mathlib.Core.Path.{◌≡◌, refl, ap₂}
use mathlib.Core.List.{List, [], ◌∷◌, ◌++◌, map, append_assoc}
use Prim.Native.Nat.{ℕ, suc, ◌<◌}
use native.Mathlib.Omega.{arith}
use lib.ListN.{length, get_or, length-append}
use Rattle.terms.specs.declared.Terms.{Terms}
use Rattle.buffer.specs.Words.{byte_in, side_number, terms_numbers}

-- numbers that bytes hold are read back as they are
pub bytes_same : (l : List ℕ) → ((i : ℕ) → get_or l i 0 < 256) → map byte_in l ≡ l
bytes_same [] h = refl
bytes_same (b ∷ l) h =
    let first = h 0 in
    let same : byte_in b ≡ b = omega arith in
    ap₂ (λ (x : ℕ) (y : List ℕ). x ∷ y) same (bytes_same l (λ i. h (suc i)))

-- the parts of the terms, one after the other, are their numbers
pub terms-joined : (t : Terms) (side limit : ℕ) → side ≡ side_number t.side → limit ≡ t.limit.0
    → t.identifier ++ (side ∷ []) ++ (t.execution ∷ t.cutoff ∷ t.most ∷ []) ++ (t.offered.0 ∷ t.minimum.0 ∷ t.increment.0 ∷ []) ++ (t.maximum.0 ∷ t.allocation.0 ∷ limit ∷ []) ≡ terms_numbers t
unfolding terms_numbers
terms-joined t side limit s l = rw (s, l) (simp append_assoc)

-- they are 21
pub length-terms : (t : Terms) → length t.identifier ≡ 11 → length (terms_numbers t) ≡ 21
unfolding terms_numbers
length-terms t h = simp length-append (omega arith)
