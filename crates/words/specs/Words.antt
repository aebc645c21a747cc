-- Digits in the bytes of a word. Assumes nothing.
use Rattle.std.specs.Prelude.{◌≡◌, ℕ, zero, suc, ◌+◌, ◌*◌, ◌/◌, ◌%◌, ◌≤◌, Bool, true, ◌&&◌, List, [], ◌∷◌, drop, ◌==◌, nat_le, slice_index, slice_index_or}
use Rattle.digits.specs.Decimal.{all_digits, number_of}

-- the k low bytes of a word, the lowest first
unfoldable pub low_bytes : ℕ → ℕ → List ℕ
low_bytes zero t = []
low_bytes (suc k) t = t % 256 ∷ low_bytes k (t / 256)

-- each number is 0 to 9
unfoldable pub all_small : List ℕ → Bool
all_small [] = true
all_small (d ∷ s) = nat_le d 9 && all_small s

-- the number that n and then numbers 0 to 9 make
unfoldable pub decimal : ℕ → List ℕ → ℕ
decimal n [] = n
decimal n (d ∷ s) = decimal (n * 10 + d) s

-- the bytes of a word are 0 to 9, so that none of them carries when a digit's code is added to each, and make a number
pub record HoldsDigits (n t : ℕ) : Type 0 where
  pub small : all_small (low_bytes 8 t) ≡ true
  pub number : decimal 0 (low_bytes 8 t) ≡ n
  pub most : t ≤ 0x0909090909090909

-- the bytes of a word are 0 to 9 just where eight bytes are digits, and make their number then
pub record Lowered (s : List ℕ) (t : ℕ) : Type 0 where
  pub small : all_small (low_bytes 8 t) ≡ all_digits s
  pub number : all_digits s ≡ true → decimal 0 (low_bytes 8 t) ≡ number_of s

-- they are 0 and then 0 to 9 just where eight bytes are a slash and digits, and make the digits' number then
pub record AfterSlash (s : List ℕ) (t : ℕ) : Type 0 where
  pub small : (t % 256 == 0 && all_small (low_bytes 8 t)) ≡ (slice_index s 0 == 47 && all_digits (drop 1 s))
  pub number : slice_index_or s 0 0 ≡ 47 → all_digits (drop 1 s) ≡ true → decimal 0 (low_bytes 8 t) ≡ number_of (drop 1 s)
