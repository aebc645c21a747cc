-- Bytes in a word: eight of them from two halves, and eight tested at once. Assumes nothing.
use Rattle.std.proofs.Common.{◌≡◌, ℕ, zero, suc, ◌+◌, ◌-◌, ◌*◌, ◌/◌, ◌%◌, ◌^◌, ◌<◌, Bool, true, false, cond, not, ◌&&◌, eqb, ltb, leb, List, [], ◌∷◌, ◌++◌, map, length, get_or, take, drop, sym, refl, ap, ◌∙◌, ap₂, not-suc-le-zero, lt_of_le_of_lt, mod-eq_of_lt, mul_assoc, div-mul-le_self, arith, lit<, take_all, pow-add, ltb-false, ltb-true, eq-eqb, eqb-true, leb-true}
use native.Mathlib.Nat.{div-div-eq-div-mul}
use lib.Bits.{bit_and, bit_or, bit_xor, and_block, or_block, and_le_r, or_lt, and_zero_r, and_mod, or_mod, xor_mod, xor_shr}
use Rattle.laws.proofs.Tests.{and_left, and_right, same_test}
use Rattle.digits.specs.Decimal.{is_digit, all_digits, number_from}
use Rattle.digits.proofs.Reading.{first_digit, rest_digits}
use Rattle.words.specs.Words.{low_bytes, all_small, decimal, Lowered, AfterSlash}

-- four bytes, and eight in two halves
pub four_bytes : (a b c d : ℕ) → a < 256 → b < 256 → c < 256 → d < 256 → low_bytes 4 (a + b * 256 + (c + d * 256) * 65536) ≡ a ∷ b ∷ c ∷ d ∷ []
unfolding low_bytes
four_bytes a b c d ha hb hc hd =
    let x = a + b * 256 + (c + d * 256) * 65536 in
    let p0 : x % 256 ≡ a = omega arith in
    let q0 : x / 256 ≡ b + (c + d * 256) * 256 = omega arith in
    let p1 : (b + (c + d * 256) * 256) % 256 ≡ b = omega arith in
    let q1 : (b + (c + d * 256) * 256) / 256 ≡ c + d * 256 = omega arith in
    let p2 : (c + d * 256) % 256 ≡ c = omega arith in
    let q2 : (c + d * 256) / 256 ≡ d = omega arith in
    let p3 : d % 256 ≡ d = omega arith in
    rw (p0, q0, p1, q1, p2, q2, p3)

pub four_are : (s : List ℕ) → length s ≡ 4 → get_or s 0 0 ∷ get_or s 1 0 ∷ get_or s 2 0 ∷ get_or s 3 0 ∷ [] ≡ s
four_are [] h = absurd (let z : ⊥ = omega arith in z)
four_are (a ∷ []) h = absurd (let z : ⊥ = omega arith in z)
four_are (a ∷ b ∷ []) h = absurd (let z : ⊥ = omega arith in z)
four_are (a ∷ b ∷ c ∷ []) h = absurd (let z : ⊥ = omega arith in z)
four_are (a ∷ b ∷ c ∷ d ∷ []) h = refl
four_are (a ∷ b ∷ c ∷ d ∷ e ∷ s) h = absurd (let z : ⊥ = omega arith in z)

pub halves : (a b : ℕ) → a < 4294967296 → low_bytes 8 (a + b * 4294967296) ≡ low_bytes 4 a ++ low_bytes 4 b
unfolding low_bytes
halves a b h =
    let p0 : (a + b * 4294967296) % 256 ≡ a % 256 = omega arith in
    let q0 : (a + b * 4294967296) / 256 ≡ a / 256 + b * 16777216 = omega arith in
    let p1 : (a / 256 + b * 16777216) % 256 ≡ a / 256 % 256 = omega arith in
    let q1 : (a / 256 + b * 16777216) / 256 ≡ a / 256 / 256 + b * 65536 = omega arith in
    let p2 : (a / 256 / 256 + b * 65536) % 256 ≡ a / 256 / 256 % 256 = omega arith in
    let q2 : (a / 256 / 256 + b * 65536) / 256 ≡ a / 256 / 256 / 256 + b * 256 = omega arith in
    let p3 : (a / 256 / 256 / 256 + b * 256) % 256 ≡ a / 256 / 256 / 256 % 256 = omega arith in
    let q3 : (a / 256 / 256 / 256 + b * 256) / 256 ≡ b = omega arith in
    rw (p0, q0, p1, q1, p2, q2, p3, q3)

pub halves_are : (s : List ℕ) → length s ≡ 8 → take 4 s ++ take 4 (drop 4 s) ≡ s
halves_are [] h = absurd (let z : ⊥ = omega arith in z)
halves_are (a ∷ []) h = absurd (let z : ⊥ = omega arith in z)
halves_are (a ∷ b ∷ []) h = absurd (let z : ⊥ = omega arith in z)
halves_are (a ∷ b ∷ c ∷ []) h = absurd (let z : ⊥ = omega arith in z)
halves_are (a ∷ b ∷ c ∷ d ∷ s) h = ap (λ (l : List ℕ). a ∷ b ∷ c ∷ d ∷ l) (take_all 4 s (omega arith))

-- a test that holds of every number below n holds of each
unfoldable holds_below : (ℕ → Bool) → ℕ → Bool
holds_below f zero = true
holds_below f (suc n) = f n && holds_below f n

or_last : (f : ℕ → Bool) (n b : ℕ) → b < suc n → (b < n → f b ≡ true) → f n ≡ true → f b ≡ true
or_last f n b l below last = go (ltb b n) refl
  where
    go : (t : Bool) → ltb b n ≡ t → f b ≡ true
    go true e = below (ltb-true b n e)
    go false e = let g = ltb-false b n e in let q : b ≡ n = omega arith in rw q last

holds_at : (f : ℕ → Bool) (n b : ℕ) → holds_below f n ≡ true → b < n → f b ≡ true
unfolding holds_below
holds_at f zero b h l = absurd (not-suc-le-zero l)
holds_at f (suc n) b h l = or_last f n b l (holds_at f n b (and_right (f n) (holds_below f n) h)) (and_left (f n) (holds_below f n) h)

abbrev same : Bool → Bool → Bool
same a b = cond a b (not b)

same_is : (a b : Bool) → same a b ≡ true → a ≡ b
same_is true true h = refl
same_is true false h = sym h
same_is false true h = h
same_is false false h = refl

-- the tests of one byte
abbrev over : ℕ → ℕ
over b = bit_and (bit_or b ((b + 6) % 256)) 240

byte_small : (b : ℕ) → b < 256 → eqb (over b) 0 ≡ leb b 9
unfolding holds_below
byte_small b l = same_is (eqb (over b) 0) (leb b 9) (holds_at (λ (x : ℕ). same (eqb (over x) 0) (leb x 9)) 256 b refl l)

byte_digit : (b : ℕ) → b < 256 → leb (bit_xor b 48) 9 ≡ is_digit b
unfolding holds_below
byte_digit b l = same_is (leb (bit_xor b 48) 9) (is_digit b) (holds_at (λ (x : ℕ). same (leb (bit_xor x 48) 9) (is_digit x)) 256 b refl l)

byte_slash : (b : ℕ) → b < 256 → eqb (bit_xor b 47) 0 ≡ eqb b 47
unfolding holds_below
byte_slash b l = same_is (eqb (bit_xor b 47) 0) (eqb b 47) (holds_at (λ (x : ℕ). same (eqb (bit_xor x 47) 0) (eqb x 47)) 256 b refl l)

byte_number : (b : ℕ) → b < 256 → is_digit b ≡ true → bit_xor b 48 ≡ b - 48
unfolding holds_below
byte_number b l h = eqb-true (bit_xor b 48) (b - 48) (rw h at (holds_at (λ (x : ℕ). cond (is_digit x) (eqb (bit_xor x 48) (x - 48)) true) 256 b refl l))

-- the word of k bytes c
unfoldable pub each : ℕ → ℕ → ℕ
each zero c = 0
each (suc k) c = each k c * 256 + c

zero_both : (x y : ℕ) → eqb (x * 256 + y) 0 ≡ (eqb y 0 && eqb x 0)
zero_both x y =
    same_test (eqb (x * 256 + y) 0) (eqb y 0 && eqb x 0)
    (λ e. let q = eqb-true (x * 256 + y) 0 e in rw (eq-eqb y 0 (omega arith), eq-eqb x 0 (omega arith)))
    (λ e. let p = eqb-true y 0 (and_left (eqb y 0) (eqb x 0) e) in let q = eqb-true x 0 (and_right (eqb y 0) (eqb x 0) e) in eq-eqb (x * 256 + y) 0 (omega arith))

-- bytes tested at once: those above one that is small are tested as they are without it
tested_rest : (k q b : ℕ) → eqb (bit_and (bit_or q (q + each k 6)) (each k 240)) 0 ≡ all_small (low_bytes k q)
    → (leb b 9 && eqb (bit_and (bit_or q (q + each k 6 + (b + 6) / 256)) (each k 240)) 0) ≡ (leb b 9 && all_small (low_bytes k q))
tested_rest k q b h = go (leb b 9) refl
  where
    go : (x : Bool) → leb b 9 ≡ x → (leb b 9 && eqb (bit_and (bit_or q (q + each k 6 + (b + 6) / 256)) (each k 240)) 0) ≡ (leb b 9 && all_small (low_bytes k q))
    go false e = rw e
    go true e =
        let r = leb-true b 9 e in
        let z : q + each k 6 + (b + 6) / 256 ≡ q + each k 6 = omega arith in
        rw (e, z) h

tested : (k t : ℕ) → eqb (bit_and (bit_or t (t + each k 6)) (each k 240)) 0 ≡ all_small (low_bytes k t)
unfolding each all_small low_bytes
tested zero t = rw (and_zero_r (bit_or t (t + 0)))
tested (suc k) t =
    let q = t / 256 in
    let b = t % 256 in
    let l : b < 256 = omega arith in
    let e : t ≡ q * 256 + b = omega arith in
    let v = (b + 6) % 256 in
    let rest = q + each k 6 + (b + 6) / 256 in
    let a : t + (each k 6 * 256 + 6) ≡ rest * 256 + v = omega arith in
    let o : bit_or t (t + (each k 6 * 256 + 6)) ≡ bit_or q rest * 256 + bit_or b v = ap₂ bit_or e a ∙ or_block 8 q rest b v l (omega arith) in
    let n = or_lt 8 b v l (omega arith) in
    ap (λ (x : ℕ). eqb (bit_and x (each k 240 * 256 + 240)) 0) o
    ∙ ap (λ (x : ℕ). eqb x 0) (and_block 8 (bit_or q rest) (each k 240) (bit_or b v) 240 n (lit< tt))
    ∙ zero_both (bit_and (bit_or q rest) (each k 240)) (over b)
    ∙ ap (λ (x : Bool). x && eqb (bit_and (bit_or q rest) (each k 240)) 0) (byte_small b l)
    ∙ tested_rest k q b (tested k q)

-- and in a word, where the sum wraps
pub word_tested : (t v : ℕ) → t < 2 ^ 64 → v ≡ (t + each 8 6) % 2 ^ 64 → eqb (bit_and (bit_or t v) (each 8 240)) 0 ≡ all_small (low_bytes 8 t)
unfolding each
word_tested t v l e =
    let s = t + each 8 6 in
    let m = each 8 240 in
    let below : bit_and (bit_or t s) m < 2 ^ 64 = lt_of_le_of_lt (and_le_r (bit_or t s) m) (lit< tt) in
    let p : bit_and (bit_or t v) m ≡ bit_and (bit_or (t % 2 ^ 64) (s % 2 ^ 64)) (m % 2 ^ 64) = ap₂ (λ (x y : ℕ). bit_and (bit_or x y) m) (sym (mod-eq_of_lt l)) e in
    ap (λ (x : ℕ). eqb x 0) (p ∙ ap (λ (x : ℕ). bit_and x (m % 2 ^ 64)) (sym (or_mod t s 64)) ∙ sym (and_mod (bit_or t s) m 64) ∙ mod-eq_of_lt below) ∙ tested 8 t

-- '0' taken off each byte
abbrev low : ℕ → ℕ
low b = bit_xor b 48

xor_bytes : (k w y c : ℕ) → c < 256 → low_bytes (suc k) (bit_xor w (y * 256 + c)) ≡ bit_xor (w % 256) c ∷ low_bytes k (bit_xor (w / 256) y)
unfolding low_bytes
xor_bytes k w y c h =
    let p : (y * 256 + c) % 256 ≡ c = omega arith in
    let q : (y * 256 + c) / 256 ≡ y = omega arith in
    ap₂ (λ (a : ℕ) (b : ℕ). a ∷ low_bytes k b) (xor_mod w (y * 256 + c) 8 ∙ ap (bit_xor (w % 256)) p) (xor_shr w (y * 256 + c) 8 ∙ ap (bit_xor (w / 256)) q)

low_bytes_lem : (k w : ℕ) → low_bytes k (bit_xor w (each k 48)) ≡ map low (low_bytes k w)
unfolding each low_bytes
low_bytes_lem zero w = refl
low_bytes_lem (suc k) w = xor_bytes k w (each k 48) 48 (lit< tt) ∙ ap (λ (l : List ℕ). low (w % 256) ∷ l) (low_bytes_lem k (w / 256))

low_small : (k w : ℕ) → all_small (map low (low_bytes k w)) ≡ all_digits (low_bytes k w)
unfolding all_small all_digits low_bytes
low_small zero w = refl
low_small (suc k) w = ap₂ ◌&&◌ (byte_digit (w % 256) (omega arith)) (low_small k (w / 256))

low_number : (k w n : ℕ) → all_digits (low_bytes k w) ≡ true → decimal n (map low (low_bytes k w)) ≡ number_from n (low_bytes k w)
unfolding decimal number_from low_bytes
low_number zero w n h = refl
low_number (suc k) w n h =
    let b = w % 256 in
    let e = byte_number b (omega arith) (first_digit b (low_bytes k (w / 256)) h) in
    ap (λ (d : ℕ). decimal (n * 10 + d) (map low (low_bytes k (w / 256)))) e ∙ low_number k (w / 256) (n * 10 + (b - 48)) (rest_digits b (low_bytes k (w / 256)) h)

pub lowered_is : (s : List ℕ) (w : ℕ) → low_bytes 8 w ≡ s → Lowered s (bit_xor w 3472328296227680304)
unfolding each
lowered_is s w e =
    record {
      small = ap all_small (low_bytes_lem 8 w) ∙ low_small 8 w ∙ ap all_digits e;
      number = λ h. ap (decimal 0) (low_bytes_lem 8 w) ∙ low_number 8 w 0 (ap all_digits e ∙ h) ∙ ap (number_from 0) e;
    }

-- the k low bytes cleared
abbrev cleared : ℕ → ℕ → ℕ
cleared k x = x / 2 ^ (8 * k) * 2 ^ (8 * k)

cleared_bytes : (k n x : ℕ) → low_bytes (suc n) (cleared (suc k) x) ≡ 0 ∷ low_bytes n (cleared k (x / 256))
unfolding low_bytes
cleared_bytes k n x =
    let y = cleared k (x / 256) in
    let p : 2 ^ (8 * suc k) ≡ 256 * 2 ^ (8 * k) = ap (λ (j : ℕ). 2 ^ j) (let z : 8 * suc k ≡ 8 + 8 * k = omega arith in z) ∙ pow-add 2 8 (8 * k) in
    let e : cleared (suc k) x ≡ y * 256 =
    ap (λ (u : ℕ). x / u * u) p ∙ ap (λ (q : ℕ). q * (256 * 2 ^ (8 * k))) (sym (div-div-eq-div-mul x 256 (2 ^ (8 * k)))) ∙ (let m = mul_assoc (x / 256 / 2 ^ (8 * k)) (2 ^ (8 * k)) 256 in omega arith) in
    let a : y * 256 % 256 ≡ 0 = omega arith in
    let b : y * 256 / 256 ≡ y = omega arith in
    rw (e, a, b)

low_rest : (n w : ℕ) → bit_xor w (each (suc n) 48) / 256 ≡ bit_xor (w / 256) (each n 48)
unfolding each
low_rest n w =
    let q : (each n 48 * 256 + 48) / 256 ≡ each n 48 = omega arith in
    xor_shr w (each n 48 * 256 + 48) 8 ∙ ap (bit_xor (w / 256)) q

none_cleared : (x : ℕ) → cleared 0 x ≡ x
none_cleared x = omega arith

after_small : (k n w : ℕ) → all_small (low_bytes n (cleared k (bit_xor w (each n 48)))) ≡ all_digits (drop k (low_bytes n w))
unfolding all_small all_digits low_bytes
after_small zero n w = ap (λ (x : ℕ). all_small (low_bytes n x)) (none_cleared (bit_xor w (each n 48))) ∙ ap all_small (low_bytes_lem n w) ∙ low_small n w
after_small (suc k) zero w = refl
after_small (suc k) (suc n) w =
    ap all_small (cleared_bytes k n (bit_xor w (each (suc n) 48))) ∙ ap (λ (x : ℕ). all_small (low_bytes n (cleared k x))) (low_rest n w) ∙ after_small k n (w / 256)

after-number : (k n w : ℕ) → all_digits (drop k (low_bytes n w)) ≡ true → decimal 0 (low_bytes n (cleared k (bit_xor w (each n 48)))) ≡ number_from 0 (drop k (low_bytes n w))
unfolding decimal number_from low_bytes
after-number zero n w h = ap (λ (x : ℕ). decimal 0 (low_bytes n x)) (none_cleared (bit_xor w (each n 48))) ∙ ap (decimal 0) (low_bytes_lem n w) ∙ low_number n w 0 h
after-number (suc k) zero w h = refl
after-number (suc k) (suc n) w h =
    ap (decimal 0) (cleared_bytes k n (bit_xor w (each (suc n) 48))) ∙ ap (λ (x : ℕ). decimal 0 (low_bytes n (cleared k x))) (low_rest n w) ∙ after-number k n (w / 256) h

pub lowered_after_is : (k : ℕ) (s : List ℕ) (w : ℕ) → low_bytes 8 w ≡ s → bit_xor w 3472328296227680304 < 2 ^ 64 → Lowered (drop k s) (cleared k (bit_xor w 3472328296227680304) % 2 ^ 64)
unfolding each
lowered_after_is k s w e h =
    let x = bit_xor w 3472328296227680304 in
    let f : cleared k x % 2 ^ 64 ≡ cleared k x = mod-eq_of_lt (lt_of_le_of_lt (div-mul-le_self x (2 ^ (8 * k))) h) in
    record {
      small = ap (λ (y : ℕ). all_small (low_bytes 8 y)) f ∙ after_small k 8 w ∙ ap (λ (l : List ℕ). all_digits (drop k l)) e;
      number = λ d.
          ap (λ (y : ℕ). decimal 0 (low_bytes 8 y)) f
          ∙ after-number k 8 w (ap (λ (l : List ℕ). all_digits (drop k l)) e ∙ d)
          ∙ ap (λ (l : List ℕ). number_from 0 (drop k l)) e;
    }

-- a slash taken off the first
first-slash : (w : ℕ) → (eqb (bit_xor (w % 256) 47) 0 && (leb (bit_xor (w % 256) 47) 9 && all_small (map low (low_bytes 7 (w / 256))))) ≡ (eqb (w % 256) 47 && all_digits (low_bytes 7 (w / 256)))
first-slash w = go (eqb (bit_xor (w % 256) 47) 0) refl
  where
    go : (t : Bool) → eqb (bit_xor (w % 256) 47) 0 ≡ t → (eqb (bit_xor (w % 256) 47) 0 && (leb (bit_xor (w % 256) 47) 9 && all_small (map low (low_bytes 7 (w / 256))))) ≡ (eqb (w % 256) 47 && all_digits (low_bytes 7 (w / 256)))
    go true e = rw (e, eqb-true (bit_xor (w % 256) 47) 0 e, sym (byte_slash (w % 256) (omega arith)) ∙ e) (low_small 7 (w / 256))
    go false e = rw (e, sym (byte_slash (w % 256) (omega arith)) ∙ e)

slash-bytes : (w : ℕ) → low_bytes 8 (bit_xor w 3472328296227680303) ≡ bit_xor (w % 256) 47 ∷ map low (low_bytes 7 (w / 256))
unfolding each
slash-bytes w = xor_bytes 7 w (each 7 48) 47 (lit< tt) ∙ ap (λ (l : List ℕ). bit_xor (w % 256) 47 ∷ l) (low_bytes_lem 7 (w / 256))

slash-first : (w : ℕ) → bit_xor w 3472328296227680303 % 256 ≡ bit_xor (w % 256) 47
slash-first w = xor_mod w 3472328296227680303 8

pub after_slash_is : (s : List ℕ) (w : ℕ) → low_bytes 8 w ≡ s → AfterSlash s (bit_xor w 3472328296227680303)
unfolding low_bytes all_small decimal
after_slash_is s w e =
    let h : w % 256 ≡ get_or s 0 0 = ap (λ (l : List ℕ). get_or l 0 0) e in
    let r : low_bytes 7 (w / 256) ≡ drop 1 s = ap (drop 1) e in
    record {
      small =
          ap₂ (λ (x : ℕ) (l : List ℕ). eqb x 0 && all_small l) (slash-first w) (slash-bytes w)
          ∙ first-slash w
          ∙ ap₂ (λ (x : ℕ) (l : List ℕ). eqb x 47 && all_digits l) h r;
      number = λ f d.
          ap (decimal 0) (slash-bytes w)
          ∙ ap (λ (x : ℕ). decimal (0 * 10 + x) (map low (low_bytes 7 (w / 256)))) (eqb-true (bit_xor (w % 256) 47) 0 (byte_slash (w % 256) (omega arith) ∙ eq-eqb (w % 256) 47 (h ∙ f)))
          ∙ low_number 7 (w / 256) 0 (ap all_digits r ∙ d)
          ∙ ap (number_from 0) r;
    }
