-- Numbers in parts of a text, of one word and of two. Assumes nothing.
use Rattle.std.proofs.Common.{◌≡◌, ℕ, ◌+◌, ◌-◌, ◌*◌, ◌^◌, ◌<◌, ◌≤◌, Bool, true, false, ◌&&◌, List, ◌++◌, length, take, drop, sym, refl, ap, ◌∙◌, ap₂, lt_of_lt_of_le, arith, lit<, length-drop, length-take-le, drop-drop, take-add, drop_at}
use native.Mathlib.Nat.{pow-le-pow_right}
use Rattle.laws.proofs.Tests.{and_left, and_right}
use Rattle.std.proofs.Common.{Some, None}
use Rattle.digits.specs.Decimal.{all_digits, number_of, digits_of, is_number, number_in}
use Rattle.digits.proofs.Reading.{number_is, none_is, number_below, number_join, number_shift, digits_join}

module _ (s : List ℕ) (from to : ℕ) (l : to ≤ length s) where
  pub length_part : from ≤ to → length (take (to - from) (drop from s)) ≡ to - from
  length_part h = length-take-le (to - from) (drop from s) (simp length-drop (omega arith))

  -- a part, as the last of the eight bytes that end with it
  pub last-part : from ≤ to → to ≤ from + 8 → 8 ≤ to → drop (8 - (to - from)) (take (to - (to - 8)) (drop (to - 8) s)) ≡ take (to - from) (drop from s)
  last-part h w e =
      let k = 8 - (to - from) in
      let n = to - from in
      let t = drop (to - 8) s in
      let p : to - (to - 8) ≡ k + n = omega arith in
      let q : to - 8 + k ≡ from = omega arith in
      ap (λ (j : ℕ). drop k (take j t)) p
      ∙ ap (drop k) (take-add k n t)
      ∙ drop_at (take k t) (take n (drop k t)) k (length-take-le k t (simp length-drop (omega arith)))
      ∙ ap (take n) (drop-drop k (to - 8) s ∙ ap (λ (j : ℕ). drop j s) q)

  -- a part, as what stands before its last eight bytes, and those
  pub two_parts : from + 8 ≤ to → take (to - 8 - from) (drop from s) ++ take (to - (to - 8)) (drop (to - 8) s) ≡ take (to - from) (drop from s)
  two_parts h =
      let n = to - 8 - from in
      let p : to - from ≡ n + (to - (to - 8)) = omega arith in
      let q : from + n ≡ to - 8 = omega arith in
      sym
      (ap (λ (j : ℕ). take j (drop from s)) p
      ∙ take-add n (to - (to - 8)) (drop from s)
      ∙ ap (λ (t : List ℕ). take n (drop from s) ++ take (to - (to - 8)) t) (drop-drop n from s ∙ ap (λ (j : ℕ). drop j s) q))

-- whether digits have a number, and the number
pub is_digits : (s : List ℕ) → is_number (digits_of s) ≡ all_digits s
is_digits s = go (all_digits s) refl
  where
    go : (t : Bool) → all_digits s ≡ t → is_number (digits_of s) ≡ all_digits s
    go true e = rw (number_is s e, e)
    go false e = rw (none_is s e, e)

pub number_fits : (s : List ℕ) → length s ≤ 8 → number_in (digits_of s) < 100000000
number_fits s l = go (all_digits s) refl
  where
    go : (t : Bool) → all_digits s ≡ t → number_in (digits_of s) < 100000000
    go true e = rw (number_is s e) (lt_of_lt_of_le (number_below (length s) s refl e) (pow-le-pow_right {n = 10} (lit< tt) {i = length s} {j = 8} l))
    go false e = rw (none_is s e) (lit< tt)

-- the number of two parts, of which the second has eight bytes
module _ (a b : List ℕ) where
  joined : (is_number (digits_of a) && is_number (digits_of b)) ≡ all_digits (a ++ b)
  joined = ap₂ ◌&&◌ (is_digits a) (is_digits b) ∙ sym (digits_join a b)

  pub two_numbers : length b ≡ 8 → is_number (digits_of a) && is_number (digits_of b) ≡ true → Some (number_in (digits_of a) * 100000000 + number_in (digits_of b)) ≡ digits_of (a ++ b)
  two_numbers l h =
      let p = sym (is_digits a) ∙ and_left (is_number (digits_of a)) (is_number (digits_of b)) h in
      let q = sym (is_digits b) ∙ and_right (is_number (digits_of a)) (is_number (digits_of b)) h in
      let n : number_of (a ++ b) ≡ number_of a * 10 ^ 8 + number_of b = number_join 0 a b ∙ number_shift (number_of a) b ∙ ap (λ (k : ℕ). number_of a * 10 ^ k + number_of b) l in
      rw (number_is a p, number_is b q) (sym (number_is (a ++ b) (sym joined ∙ h) ∙ ap Some n))

  pub no_number : is_number (digits_of a) && is_number (digits_of b) ≡ false → None ≡ digits_of (a ++ b)
  no_number h = sym (none_is (a ++ b) (sym joined ∙ h))
