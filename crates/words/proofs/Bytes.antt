-- The word that bytes make, and that they come back out of it. Assumes nothing.
use Rattle.std.proofs.Common.{◌≡◌, ℕ, ◌+◌, ◌*◌, ◌/◌, ◌%◌, true, leb, List, [], ◌∷◌, length, refl, ap, arith, leb-true}
use Rattle.laws.proofs.Tests.{and_left, and_right}
use Rattle.words.specs.Words.{low_bytes, all_small}

-- the first byte is the lowest
unfoldable pub word_of : List ℕ → ℕ
word_of [] = 0
word_of (b ∷ s) = b + word_of s * 256

pub bytes_back : (s : List ℕ) → all_small s ≡ true → low_bytes (length s) (word_of s) ≡ s
unfolding word_of low_bytes all_small
bytes_back [] h = refl
bytes_back (d ∷ s) h =
    let r = leb-true d 9 (and_left (leb d 9) (all_small s) h) in
    let x : (d + word_of s * 256) % 256 ≡ d = omega arith in
    let y : (d + word_of s * 256) / 256 ≡ word_of s = omega arith in
    rw (x, y) (ap (λ (l : List ℕ). d ∷ l) (bytes_back s (and_right (leb d 9) (all_small s) h)))
