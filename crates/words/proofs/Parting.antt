-- A number parted into two fours, four pairs and eight digits in the bytes of a word. Assumes nothing.
use Rattle.std.proofs.Common.{◌≡◌, ℕ, ◌+◌, ◌-◌, ◌*◌, ◌/◌, ◌%◌, ◌<◌, ◌≤◌, true, List, [], ◌∷◌, ap, ◌∙◌, ap₂, arith, lit<, le-leb}
use lib.Bits.{bit_and, and_block, and_mask}
use Rattle.words.specs.Words.{low_bytes, all_small, decimal}
use Rattle.words.proofs.Bytes.{word_of, bytes_back}

-- the three steps of `parted`
abbrev pub fours_in : ℕ → ℕ
fours_in n = n * 4294967296 - n / 10000 * 42949672959999

abbrev pub hundreds_in : ℕ → ℕ
hundreds_in f = bit_and (f * 10486 / 1048576) 545460846719

abbrev pub pairs_in : ℕ → ℕ
pairs_in f = f * 65536 - hundreds_in f * 6553599

abbrev pub tens_in : ℕ → ℕ
tens_in p = bit_and (p * 103 / 1024) 4222189076152335

abbrev pub digits_in : ℕ → ℕ
digits_in p = p * 256 - tens_in p * 2559

-- each mask keeps the quotient at the foot of a field, and the rest of the mask meets the rest of the word
keep_hundreds : (r o e : ℕ) → r ≤ 99 → o < 1048576 → e ≤ 99 → bit_and (r * 4294967296 + (o * 4096 + e)) 545460846719 ≡ r * 4294967296 + e
keep_hundreds r o e hr ho he =
    let q : (o * 4096 + e) % 128 ≡ e = omega arith in
    let s : r % 128 ≡ r = omega arith in
    and_block 32 r 127 (o * 4096 + e) 127 (omega arith) (lit< tt) ∙ ap₂ (λ (x y : ℕ). x * 4294967296 + y) (and_mask r 7 ∙ s) (and_mask (o * 4096 + e) 7 ∙ q)

keep-ten : (r o e m : ℕ) → o < 1024 → e ≤ 9 → bit_and (r * 65536 + (o * 64 + e)) (m * 65536 + 15) ≡ bit_and r m * 65536 + e
keep-ten r o e m ho he =
    let q : (o * 64 + e) % 16 ≡ e = omega arith in
    and_block 16 r m (o * 64 + e) 15 (omega arith) (lit< tt) ∙ ap (λ (x : ℕ). bit_and r m * 65536 + x) (and_mask (o * 64 + e) 4 ∙ q)

-- a quotient by a hundred and one by ten, from a product and a shift
hundredth : (x : ℕ) → x ≤ 9999 → x * 10486 / 1048576 ≡ x / 100
hundredth x h = omega arith

tenth : (x : ℕ) → x ≤ 99 → x * 103 / 1024 ≡ x / 10
tenth x h = omega arith

-- the steps, from two fours and from four pairs
module _ (h l : ℕ) (hh : h ≤ 9999) (hl : l ≤ 9999) where
  fours_are : fours_in (h * 10000 + l) ≡ l * 4294967296 + h
  fours_are =
      let q : (h * 10000 + l) / 10000 ≡ h = omega arith in
      rw q (omega arith)

  hundreds_are : hundreds_in (l * 4294967296 + h) ≡ l / 100 * 4294967296 + h / 100
  hundreds_are =
      let x = hundredth h hh in
      let y = hundredth l hl in
      let e : (l * 4294967296 + h) * 10486 / 1048576 ≡ l / 100 * 4294967296 + (l * 10486 % 1048576 * 4096 + h / 100) = omega arith in
      ap (λ (z : ℕ). bit_and z 545460846719) e ∙ keep_hundreds (l / 100) (l * 10486 % 1048576) (h / 100) (omega arith) (omega arith) (omega arith)

next_ten : (r x m : ℕ) → x ≤ 99 → bit_and ((r * 65536 + x) * 103 / 1024) (m * 65536 + 15) ≡ bit_and (r * 103 / 1024) m * 65536 + x / 10
next_ten r x m h =
    let y = tenth x h in
    let e : (r * 65536 + x) * 103 / 1024 ≡ r * 103 / 1024 * 65536 + (r * 103 % 1024 * 64 + x / 10) = omega arith in
    ap (λ (z : ℕ). bit_and z (m * 65536 + 15)) e ∙ keep-ten (r * 103 / 1024) (r * 103 % 1024) (x / 10) m (omega arith) (omega arith)

last-ten : (x : ℕ) → x ≤ 99 → bit_and (x * 103 / 1024) 15 ≡ x / 10
last-ten x h =
    let s : x / 10 % 16 ≡ x / 10 = omega arith in
    and_mask (x * 103 / 1024) 4 ∙ ap (λ (y : ℕ). y % 16) (tenth x h) ∙ s

module _ (a b c d : ℕ) (ha : a ≤ 99) (hb : b ≤ 99) (hc : c ≤ 99) (hd : d ≤ 99) where
  tens_are : tens_in (((d * 65536 + c) * 65536 + b) * 65536 + a) ≡ ((d / 10 * 65536 + c / 10) * 65536 + b / 10) * 65536 + a / 10
  tens_are =
      next_ten ((d * 65536 + c) * 65536 + b) a 64425492495 ha
      ∙ ap (λ (x : ℕ). x * 65536 + a / 10) (next_ten (d * 65536 + c) b 983055 hb)
      ∙ ap (λ (x : ℕ). (x * 65536 + b / 10) * 65536 + a / 10) (next_ten d c 15 hc)
      ∙ ap (λ (x : ℕ). ((x * 65536 + c / 10) * 65536 + b / 10) * 65536 + a / 10) (last-ten d hd)

  pairs_are : ((c * 100 + d) * 4294967296 + (a * 100 + b)) * 65536 - (c * 4294967296 + a) * 6553599 ≡ ((d * 65536 + c) * 65536 + b) * 65536 + a
  pairs_are = omega arith

  hundreds_less : (c * 4294967296 + a) * 6553599 ≤ ((c * 100 + d) * 4294967296 + (a * 100 + b)) * 65536
  hundreds_less = omega arith

  pairs_below : ((d * 65536 + c) * 65536 + b) * 65536 + a < 28147497671065600
  pairs_below = omega arith

  abbrev Tens : ℕ
  Tens = ((d / 10 * 65536 + c / 10) * 65536 + b / 10) * 65536 + a / 10

  digits_are : (((d * 65536 + c) * 65536 + b) * 65536 + a) * 256 - Tens * 2559 ≡ (((d / 10 + d % 10 * 256) * 65536 + (c / 10 + c % 10 * 256)) * 65536 + (b / 10 + b % 10 * 256)) * 65536 + (a / 10 + a % 10 * 256)
  digits_are = omega arith

  tens_less : Tens * 2559 ≤ (((d * 65536 + c) * 65536 + b) * 65536 + a) * 256
  tens_less = omega arith

  number_is : decimal 0 (a / 10 ∷ a % 10 ∷ b / 10 ∷ b % 10 ∷ c / 10 ∷ c % 10 ∷ d / 10 ∷ d % 10 ∷ []) ≡ ((a * 100 + b) * 100 + c) * 100 + d
  unfolding decimal
  number_is = omega arith

-- what `parted` makes of a number, step by step
module _ (n : ℕ) (h : n < 100000000) where
  abbrev A : ℕ
  A = n / 1000000

  abbrev B : ℕ
  B = n / 10000 % 100

  abbrev C : ℕ
  C = n / 100 % 100

  abbrev D : ℕ
  D = n % 100

  abbrev Pairs : ℕ
  Pairs = ((D * 65536 + C) * 65536 + B) * 65536 + A

  fours : fours_in n ≡ n % 10000 * 4294967296 + n / 10000
  fours =
      let e : n ≡ n / 10000 * 10000 + n % 10000 = omega arith in
      ap fours_in e ∙ fours_are (n / 10000) (n % 10000) (omega arith) (omega arith)

  four_pairs : fours_in n ≡ (C * 100 + D) * 4294967296 + (A * 100 + B)
  four_pairs =
      let x : n % 10000 ≡ C * 100 + D = omega arith in
      let y : n / 10000 ≡ A * 100 + B = omega arith in
      fours ∙ ap₂ (λ (l m : ℕ). l * 4294967296 + m) x y

  hundreds : hundreds_in (fours_in n) ≡ C * 4294967296 + A
  hundreds =
      let x : n % 10000 / 100 ≡ C = omega arith in
      let y : n / 10000 / 100 ≡ A = omega arith in
      ap hundreds_in fours ∙ hundreds_are (n / 10000) (n % 10000) (omega arith) (omega arith) ∙ ap₂ (λ (l m : ℕ). l * 4294967296 + m) x y

  pub hundreds_fit : hundreds_in (fours_in n) * 6553599 ≤ fours_in n * 65536
  hundreds_fit = rw (hundreds, four_pairs) (hundreds_less A B C D (omega arith) (omega arith) (omega arith) (omega arith))

  pairs : pairs_in (fours_in n) ≡ Pairs
  pairs = ap₂ (λ (f q : ℕ). f * 65536 - q * 6553599) four_pairs hundreds ∙ pairs_are A B C D (omega arith) (omega arith) (omega arith) (omega arith)

  pub pairs_fit : pairs_in (fours_in n) < 28147497671065600
  pairs_fit = rw pairs (pairs_below A B C D (omega arith) (omega arith) (omega arith) (omega arith))

  tens : tens_in (pairs_in (fours_in n)) ≡ ((D / 10 * 65536 + C / 10) * 65536 + B / 10) * 65536 + A / 10
  tens = ap tens_in pairs ∙ tens_are A B C D (omega arith) (omega arith) (omega arith) (omega arith)

  pub tens_fit : tens_in (pairs_in (fours_in n)) * 2559 ≤ pairs_in (fours_in n) * 256
  tens_fit = rw (tens, pairs) (tens_less A B C D (omega arith) (omega arith) (omega arith) (omega arith))

  abbrev eight_digits : List ℕ
  eight_digits = A / 10 ∷ A % 10 ∷ B / 10 ∷ B % 10 ∷ C / 10 ∷ C % 10 ∷ D / 10 ∷ D % 10 ∷ []

  parted_word : digits_in (pairs_in (fours_in n)) ≡ word_of eight_digits
  unfolding word_of
  parted_word = ap₂ (λ (p t : ℕ). p * 256 - t * 2559) pairs tens ∙ digits_are A B C D (omega arith) (omega arith) (omega arith) (omega arith) ∙ omega arith

  parted_small : all_small eight_digits ≡ true
  unfolding all_small
  parted_small =
      rw (le-leb (A / 10) 9 (omega arith), le-leb (A % 10) 9 (omega arith), le-leb (B / 10) 9 (omega arith), le-leb (B % 10) 9 (omega arith), le-leb (C / 10) 9 (omega arith), le-leb (C % 10) 9 (omega arith), le-leb (D / 10) 9 (omega arith), le-leb (D % 10) 9 (omega arith))

  parted_bytes : low_bytes 8 (digits_in (pairs_in (fours_in n))) ≡ eight_digits
  parted_bytes = ap (low_bytes 8) parted_word ∙ bytes_back eight_digits parted_small

  pub parted_digits : all_small (low_bytes 8 (digits_in (pairs_in (fours_in n)))) ≡ true
  parted_digits = ap all_small parted_bytes ∙ parted_small

  pub parted_number : decimal 0 (low_bytes 8 (digits_in (pairs_in (fours_in n)))) ≡ n
  parted_number =
      let e : ((A * 100 + B) * 100 + C) * 100 + D ≡ n = omega arith in
      ap (decimal 0) parted_bytes ∙ number_is A B C D (omega arith) (omega arith) (omega arith) (omega arith) ∙ e
