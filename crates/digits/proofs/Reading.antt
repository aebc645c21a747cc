-- Laws of reading digits, over the width. Assumes nothing.
use mathlib.Core.Path.{◌≡◌, refl, sym, ap, ◌∙◌, subst}
use mathlib.Core.Bool.{Bool, true, false, cond, ◌&&◌, and_assoc, and-true}
use mathlib.Core.List.{List, [], ◌∷◌, ◌++◌}
use Prim.Native.Nat.{ℕ, suc, ◌+◌, ◌*◌, ◌-◌, ◌^◌, ◌≤◌, ◌<◌}
use native.Mathlib.Nat.{pow-suc, add-mul, mul_assoc, mul-le-mul_right, pow-le-pow_right}
use native.Mathlib.Numerals.{add-one}
use native.Mathlib.Omega.{arith}
use lib.Dec.{leb, lit<}
use lib.ListN.{length, drop, get_or, drop_of_length-le}
use lib.Seq.{drop-cons}
use borrow.Author.Tests.{leb-true}
use Rattle.laws.proofs.Tests.{and_left, and_right}
use Rattle.std.proofs.Common.{Some, None}
use Rattle.digits.specs.Decimal.{is_digit, all_digits, number_from, number_of, digits_of}

pub digit_range : (b : ℕ) → is_digit b ≡ true → (48 ≤ b) × (b ≤ 57)
digit_range b h = (leb-true 48 b (and_left (leb 48 b) (leb b 57) h), leb-true b 57 (and_right (leb 48 b) (leb b 57) h))

module _ (b : ℕ) (s : List ℕ) (h : all_digits (b ∷ s) ≡ true) where
  pub first_digit : is_digit b ≡ true
  unfolding all_digits
  first_digit = and_left (is_digit b) (all_digits s) h

  pub rest_digits : all_digits s ≡ true
  unfolding all_digits
  rest_digits = and_right (is_digit b) (all_digits s) h

-- what a field of digits holds, by its test
pub number_is : (s : List ℕ) → all_digits s ≡ true → digits_of s ≡ Some (number_of s)
unfolding digits_of
number_is s h = rw h

pub none_is : (s : List ℕ) → all_digits s ≡ false → digits_of s ≡ None
unfolding digits_of
none_is s h = rw h

pub is_number_lem : (s : List ℕ) (n : ℕ) → digits_of s ≡ Some n → (all_digits s ≡ true) × (number_of s ≡ n)
unfolding digits_of
is_number_lem s n h = go (all_digits s) refl
  where
    go : (t : Bool) → all_digits s ≡ t → (all_digits s ≡ true) × (number_of s ≡ n)
    go true e = (e, let q : Some (number_of s) ≡ Some n = sym (ap (λ (b : Bool). cond b (Some (number_of s)) None) e) ∙ h in (cc))
    go false e = absurd (let q : None ≡ Some n = sym (ap (λ (b : Bool). cond b (Some (number_of s)) None) e) ∙ h in let z : ◌≡◌ {A = ℕ} 0 1 = cc in omega arith)

-- the loop over the test: one more byte, and the end
pub test_more : (ok : Bool) (s : List ℕ) (i : ℕ) → i < length s → ((ok && is_digit (get_or s i 0)) && all_digits (drop (i + 1) s)) ≡ (ok && all_digits (drop i s))
unfolding all_digits
test_more ok s i h = rw (drop-cons s i 0 h, add-one) (and_assoc ok (is_digit (get_or s i 0)) (all_digits (drop (suc i) s)))

pub test_end : (ok : Bool) (s : List ℕ) (i : ℕ) → length s ≤ i → (ok && all_digits (drop i s)) ≡ ok
unfolding all_digits
test_end ok s i h = rw (drop_of_length-le s h) (and-true ok)

-- the loop over the number: one more digit, and the end
module _ (s : List ℕ) (i : ℕ) (h : i < length s) where
  digits_at : all_digits (drop i s) ≡ true → all_digits (get_or s i 0 ∷ drop (suc i) s) ≡ true
  digits_at d = ap all_digits (sym (drop-cons s i 0 h)) ∙ d

  pub next_digit : all_digits (drop i s) ≡ true → (48 ≤ get_or s i 0) × (get_or s i 0 ≤ 57)
  next_digit d = digit_range (get_or s i 0) (first_digit (get_or s i 0) (drop (suc i) s) (digits_at d))

  pub next_digits : all_digits (drop i s) ≡ true → all_digits (drop (i + 1) s) ≡ true
  next_digits d = rw add-one (rest_digits (get_or s i 0) (drop (suc i) s) (digits_at d))

  pub next_number : (n : ℕ) → number_from (n * 10 + (get_or s i 0 - 48)) (drop (i + 1) s) ≡ number_from n (drop i s)
  unfolding number_from
  next_number n = rw (drop-cons s i 0 h, add-one)

pub last-number : (n : ℕ) (s : List ℕ) (i : ℕ) → length s ≤ i → number_from n (drop i s) ≡ n
unfolding number_from
last-number n s i h = rw (drop_of_length-le s h)

-- a number of i digits, and of one more; nineteen digits fit
pub below_more : (n i d : ℕ) → n < 10 ^ i → d < 10 → n * 10 + d < 10 ^ (i + 1)
below_more n i d h l = rw (add-one, pow-suc) (omega arith)

pub below_19 : (n i : ℕ) → i < 19 → n < 10 ^ i → n < 1000000000000000000
below_19 n i l h = let p : 10 ^ i ≤ 10 ^ 18 = pow-le-pow_right {n = 10} (lit< tt) {i = i} {j = 18} (omega arith) in omega arith

-- a number from n is n moved by the width
pub number_shift : (n : ℕ) (s : List ℕ) → number_from n s ≡ n * 10 ^ length s + number_from 0 s
unfolding number_from
number_shift n [] = omega arith
number_shift n (b ∷ s) =
    let i = number_shift (n * 10 + (b - 48)) s in
    let j = number_shift (0 * 10 + (b - 48)) s in
    rw (pow-suc 10 (length s), i, j) (omega (arith, add-mul (n * 10) (b - 48) (10 ^ length s), mul_assoc n 10 (10 ^ length s), mul_assoc n (10 ^ length s) 10))

pub number_join : (n : ℕ) (s t : List ℕ) → number_from n (s ++ t) ≡ number_from (number_from n s) t
unfolding number_from
number_join n [] t = refl
number_join n (b ∷ s) t = number_join (n * 10 + (b - 48)) s t

pub digits_join : (s t : List ℕ) → all_digits (s ++ t) ≡ (all_digits s && all_digits t)
unfolding all_digits
digits_join [] t = refl
digits_join (b ∷ s) t = ap (λ (x : Bool). is_digit b && x) (digits_join s t) ∙ sym (and_assoc (is_digit b) (all_digits s) (all_digits t))

-- a number of w digits is below the power of ten
pub below_length : (s : List ℕ) → all_digits s ≡ true → number_of s < 10 ^ length s
unfolding number_from
below_length [] h = lit< tt
below_length (b ∷ s) h =
    let r = digit_range b (first_digit b s h) in
    let i = below_length s (rest_digits b s h) in
    let m : (b - 48) * 10 ^ length s ≤ 9 * 10 ^ length s = mul-le-mul_right (10 ^ length s) (omega arith) in
    rw (pow-suc 10 (length s), number_shift (0 * 10 + (b - 48)) s) (omega arith)

pub number_below : (w : ℕ) (s : List ℕ) → length s ≡ w → all_digits s ≡ true → number_of s < 10 ^ w
number_below w s l h = subst (λ (k : ℕ). number_of s < 10 ^ k) l (below_length s h)
