-- The share is a times (Q − B), divided by E, rounded down; the division starts at zeros and each of its rounds follows from the one before by one
-- binary digit of a. Assumes nothing.
use mathlib.Core.Path.{◌≡◌, ap, ap₂, ◌∙◌, sym}
use mathlib.Core.List.{List}
use Prim.Native.Nat.{ℕ, zero, suc, ◌+◌, ◌-◌, ◌*◌, ◌/◌, ◌%◌, ◌^◌, ◌≤◌, ◌<◌}
use native.Mathlib.Nat.{sub-zero, add-mul, mul_assoc, mul-add-div_right, mul-add-mod_self_right, div-add-mod', div-div-eq-div-mul, pow-suc, div-one, div-eq_of_lt, zero-div, zero-mod, zero-mul}
use native.Mathlib.Omega.{arith}
use lib.Arith.{half_le}
use Rattle.rules.specs.Theorems.{next_round}
use Rattle.rules.specs.Allotment.{Bid, Offer, total_better, total_equal, binary_length_within, binary_length, first_digits, Division, division_at, division, share}

-- the digits of a

below_length : (d a : ℕ) → a ≤ d → a < 2 ^ binary_length_within d a
unfolding binary_length_within
below_length zero a h = omega arith
below_length (suc d) zero h = omega arith
below_length (suc d) (suc a) h = omega (arith, below_length d (suc a / 2) (half_le h), pow-suc 2 (binary_length_within d (suc a / 2)))

-- none of the digits, and all of them
first_none : (a : ℕ) → first_digits a 0 ≡ 0
unfolding first_digits binary_length
first_none a = rw sub-zero (div-eq_of_lt (below_length a a (omega arith)))

first-all : (a : ℕ) → first_digits a (binary_length a) ≡ a
unfolding first_digits
first-all a = let e : binary_length a - binary_length a ≡ 0 = omega arith in ap (λ (x : ℕ). a / 2 ^ x) e ∙ div-one a

-- the digit after the first k, highest first
abbrev pub digit_after : ℕ → ℕ → ℕ
digit_after a k = first_digits a (k + 1) % 2

pub digit_below : (a k : ℕ) → digit_after a k < 2
digit_below a k = omega arith

-- one digit more
pub first_more : (a k : ℕ) → k < binary_length a → first_digits a (k + 1) ≡ 2 * first_digits a k + digit_after a k
unfolding first_digits
first_more a k h =
    let j : ℕ = binary_length a - (k + 1) in
    let e : binary_length a - k ≡ suc j = omega arith in
    let s : a / 2 ^ (binary_length a - k) ≡ a / 2 ^ j / 2 =
    ap (λ (x : ℕ). a / 2 ^ x) e ∙ ap (λ (x : ℕ). a / x) (pow-suc 2 j) ∙ sym (div-div-eq-div-mul a (2 ^ j) 2) in
    omega (arith, s)

-- the rounds

pub first_round : (a m e : ℕ) → division_at a m e 0 ≡ record { quotient = 0; remainder = 0; count = 0 }
unfolding division_at
first_round a m e = simp (first_none a, zero-mul, zero-div, zero-mod)

module _ (a m e k : ℕ) (below : k < binary_length a) where
  -- the next number times m
  product : first_digits a (k + 1) * m ≡ 2 * (first_digits a k * m / e) * e + (2 * (first_digits a k * m % e) + digit_after a k * m)
  product =
      let n = first_digits a k in
      let more : first_digits a (k + 1) * m ≡ (2 * n + digit_after a k) * m = ap (λ (x : ℕ). x * m) (first_more a k below) in
      omega (arith, more, div-add-mod' (n * m) e, add-mul (2 * n) (digit_after a k) m, mul_assoc 2 n m, mul_assoc 2 (n * m / e) e)

  pub next_round_lem : 0 < e → division_at a m e (k + 1) ≡ next_round (digit_after a k) m e (division_at a m e k)
  unfolding division_at
  next_round_lem pos =
      let t = 2 * (first_digits a k * m % e) + digit_after a k * m in
      let q = 2 * (first_digits a k * m / e) in
      ap₂ {C = Division} (λ (x y : ℕ). record { quotient = x; remainder = y; count = k + 1 })
      (ap (λ (x : ℕ). x / e) product ∙ mul-add-div_right {m = e} pos q t)
      (ap (λ (x : ℕ). x % e) product ∙ mul-add-mod_self_right q e t)

-- the share

pub quotient_is : (a m e : ℕ) → (division a m e).quotient ≡ a * m / e
unfolding division division_at
quotient_is a m e = ap (λ (x : ℕ). x * m / e) (first-all a)

pub share_is : (o : Offer) (bs : List Bid) (r a : ℕ) → share o bs r a ≡ a * (o.offered - total_better o bs r) / total_equal o bs r
unfolding share
share_is o bs r a = quotient_is a (o.offered - total_better o bs r) (total_equal o bs r)
