-- The share division's numbers: an amount's leading zeros and its binary length make 64, and every round stays within 64 bits. Assumes nothing.
use Rattle.std.proofs.Common.{◌≡◌, ℕ, zero, suc, ◌+◌, ◌-◌, ◌*◌, ◌/◌, ◌%◌, ◌^◌, ◌<◌, ◌≤◌, Bool, true, false, cond, ltb, leb, sym, refl, ap, ◌∙◌, subst, not-suc-le-zero, add-zero, add-suc, mul-le-mul_right, mod-lt, mul_comm, mul-le-mul_left, div-add-mod', div-le_self, add-one, arith, shr_lt, ltb-false, ltb-true, leb-false, leb-true}
use native.Mathlib.Nat.{mul-add-div_right, div-eq_of_lt, div-le_of_le-mul}
use lib.Arith.{half_le, lt-one}
use lib.Count.{count_leading_zeros}
use mir.Val.{bool_byte}
use Rattle.rules.specs.Allotment.{binary_length_within, binary_length, first_digits, Division, division_at}
use Rattle.rules.specs.Theorems.{next_round}
use Rattle.rules.proofs.Division.{digit_after, digit_below, next_round_lem}

-- ── leading zeros ──

length_of_zero : (d : ℕ) → binary_length_within d 0 ≡ 0
unfolding binary_length_within
length_of_zero zero = refl
length_of_zero (suc d) = refl

leading_and_length_in : (d k n : ℕ) → n ≤ d → n < 2 ^ k → count_leading_zeros k n + binary_length_within d n ≡ k
unfolding binary_length_within count_leading_zeros
leading_and_length_in d zero n l h = ap (λ (x : ℕ). 0 + binary_length_within d x) (lt-one h) ∙ ap (λ (x : ℕ). 0 + x) (length_of_zero d)
leading_and_length_in d (suc k) zero l h = ap (λ (x : ℕ). suc k + x) (length_of_zero d) ∙ add-zero (suc k)
leading_and_length_in zero (suc k) (suc n) l h = absurd (not-suc-le-zero l)
leading_and_length_in (suc d) (suc k) (suc n) l h =
    add-suc (count_leading_zeros k (suc n / 2)) (binary_length_within d (suc n / 2))
    ∙ ap suc (leading_and_length_in d k (suc n / 2) (half_le l) (shr_lt k 1 (subst (λ (x : ℕ). suc n < 2 ^ x) (sym (add-one k)) h)))

-- the leading zeros of a number of k digits, and its length, make k
pub leading_and_length : (k n : ℕ) → n < 2 ^ k → count_leading_zeros k n + binary_length n ≡ k
unfolding binary_length
leading_and_length k n h = leading_and_length_in n k n (omega arith) h

pub length_le : (k n : ℕ) → n < 2 ^ k → binary_length n ≤ k
length_le k n h = omega (arith, leading_and_length k n h)

-- ── how often e goes in ──

-- q times e and less than e more
quotient_is : (t e q : ℕ) → q * e ≤ t → t < q * e + e → t / e ≡ q
quotient_is t e q h k =
    let pos : 0 < e = omega arith in
    let r : t - q * e < e = omega arith in
    let s : t ≡ q * e + (t - q * e) = omega arith in
    ap (λ (x : ℕ). x / e) s ∙ mul-add-div_right {m = e} pos q (t - q * e) ∙ omega (arith, div-eq_of_lt r)

-- below three times e, it goes in as often as it and its double are within
pub times_is : (t e : ℕ) → t < 3 * e → bool_byte (leb e t) + bool_byte (leb (2 * e) t) ≡ t / e
times_is t e h = go (leb e t) refl (leb (2 * e) t) refl
  where
    go : (a : Bool) → leb e t ≡ a → (b : Bool) → leb (2 * e) t ≡ b → bool_byte a + bool_byte b ≡ t / e
    go true ea true eb = sym (quotient_is t e 2 (omega (arith, leb-true)) (omega arith))
    go true ea false eb = sym (quotient_is t e 1 (omega (arith, leb-true)) (omega (arith, leb-false)))
    go false ea true eb = absurd (omega (arith, leb-true, leb-false))
    go false ea false eb = sym (quotient_is t e 0 (omega arith) (omega (arith, leb-false)))

pub at_most_once : (t : Bool) → bool_byte t ≤ 1
at_most_once true = omega arith
at_most_once false = omega arith

-- ── what is left ──

remainder_is : (t e q : ℕ) → q * e ≤ t → t < q * e + e → t - q * e ≡ t % e
remainder_is t e q h k = omega (arith, ap (λ (x : ℕ). x * e) (quotient_is t e q h k), div-add-mod' t e)

-- of the differences once and twice, wrapped, the one that is left: a difference that wraps is not below t
pub left_is : (t e once twice : ℕ) → t < 3 * e → e < 10 ^ 18 → once < 2 ^ 64 → twice < 2 ^ 64 → (once + e) % 2 ^ 64 ≡ t → (twice + 2 * e) % 2 ^ 64 ≡ t
    → cond (leb (2 * e) t) twice (cond (ltb once t) once t) ≡ t % e
left_is t e once twice h k f g o w = go (leb (2 * e) t) refl (ltb once t) refl
  where
    go : (a : Bool) → leb (2 * e) t ≡ a → (b : Bool) → ltb once t ≡ b → cond a twice (cond b once t) ≡ t % e
    go true ea b eb = omega (arith, leb-true, remainder_is t e 2 (omega (arith, leb-true)) (omega arith))
    go false ea true eb = omega (arith, ltb-true, remainder_is t e 1 (omega (arith, ltb-true)) (omega (arith, leb-false)))
    go false ea false eb = omega (arith, ltb-false, remainder_is t e 0 (omega arith) (omega (arith, ltb-false)))

-- ── a round ──

quotient_at_most : (a m e k : ℕ) → m < e → (division_at a m e k).quotient ≤ a
unfolding division_at first_digits
quotient_at_most a m e k small =
    let n = first_digits a k in
    let h : n * m ≤ e * n = omega (arith, mul-le-mul_left {m = m} {n = e} n (omega arith), mul_comm n e) in
    omega (arith, div-le_of_le-mul e {m = n * m} {n = n} h, div-le_self a (2 ^ (binary_length a - k)))

remainder_below : (a m e k : ℕ) → m < e → (division_at a m e k).remainder < e
unfolding division_at
remainder_below a m e k small = mod-lt (first_digits a k * m) {m = e} (omega arith)

-- what a round begins with: the division v of some rounds, the next digit b, and a round to go
pub record Begun (a m e b : ℕ) (v : Division) : Type 0 where
  pub rounds : v ≡ division_at a m e v.count
  pub digit : b ≡ digit_after a v.count
  pub more : v.count < binary_length a
  pub small : m < e

module _ (a m e b : ℕ) (v : Division) (s : Begun a m e b v) where
  pub digit_times : b * m ≤ m
  digit_times = omega (arith, mul-le-mul_right {m = b} {n = 1} m (omega (arith, s.digit, digit_below a v.count)))

  pub rest_below : 2 * v.remainder + b * m < 3 * e
  rest_below =
      let r : v.remainder ≡ (division_at a m e v.count).remainder = ap (λ (x : Division). x.remainder) s.rounds in
      omega (arith, r, digit_times, remainder_below a m e v.count s.small, s.small)

  pub next : next_round b m e v ≡ division_at a m e (v.count + 1)
  next =
      ap (λ (x : ℕ). next_round x m e v) s.digit
      ∙ ap (next_round (digit_after a v.count) m e) s.rounds
      ∙ sym (next_round_lem a m e v.count s.more (omega (arith, s.small)))

  pub quotient_fits : 2 * v.quotient + (2 * v.remainder + b * m) / e ≤ a
  quotient_fits =
      let q : (next_round b m e v).quotient ≡ (division_at a m e (v.count + 1)).quotient = ap (λ (x : Division). x.quotient) next in
      omega (arith, q, quotient_at_most a m e (v.count + 1) s.small)

-- a division of k rounds counts k
pub counted : (v : Division) (a m e k : ℕ) → v ≡ division_at a m e k → (v ≡ division_at a m e v.count) × (v.count ≡ k)
unfolding division_at
counted v a m e k p =
    let q : v.count ≡ k = ap (λ (x : Division). x.count) p in
    (p ∙ ap (division_at a m e) (sym q), q)
