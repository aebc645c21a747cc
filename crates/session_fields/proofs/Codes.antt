-- Laws of an A0: codes of five digits each, and those that a journal keeps. Assumes nothing.
use mathlib.Core.Path.{◌≡◌, refl, sym, ap, ◌∙◌}
use mathlib.Core.Bool.{Bool, true, false, cond, ◌&&◌}
use mathlib.Core.List.{List, [], ◌∷◌, ◌++◌}
use mathlib.Core.Option.{none, some}
use Prim.Native.Nat.{ℕ, zero, suc, ◌+◌, ◌*◌, ◌-◌, ◌/◌, ◌%◌, ◌≤◌, ◌<◌, min}
use native.Mathlib.Omega.{arith}
use native.Mathlib.Numerals.{add-one}
use lib.Dec.{eqb}
use lib.ListN.{length, take, drop, set, length-drop, take-append-drop}
use lib.Seq.{take-nil, drop-drop, take-suc-set}
use borrow.Author.Tests.{eqb-true}
use Rattle.laws.proofs.Tests.{and_left, and_right}
use Rattle.digits.specs.Decimal.{all_digits, digits_of}
use Rattle.digits.proofs.Reading.{number_is, none_is, digits_join, number_below}
use Rattle.output.proofs.Output.{length_part}
use Rattle.log_rules.specs.Steps.{and_code, groups, admitted_in}
use Rattle.session_fields.specs.Codes.{group_code, codes_from}

-- digits in two parts
in_parts : (k : ℕ) (s : List ℕ) → all_digits s ≡ (all_digits (take k s) && all_digits (drop k s))
in_parts k s = ap all_digits (sym (take-append-drop k s)) ∙ digits_join (take k s) (drop k s)

module _ (k : ℕ) (s : List ℕ) (h : all_digits s ≡ true) where
  first_digits_lem : all_digits (take k s) ≡ true
  first_digits_lem = and_left (all_digits (take k s)) (all_digits (drop k s)) (sym (in_parts k s) ∙ h)

  last_digits : all_digits (drop k s) ≡ true
  last_digits = and_right (all_digits (take k s)) (all_digits (drop k s)) (sym (in_parts k s) ∙ h)

-- the code that five digits from an index on make, and that it fits
pub code-part : (s : List ℕ) (at : ℕ) → group_code (take (at + 5 - at) (drop at s)) ≡ group_code (take 5 (drop at s))
code-part s at = let e : at + 5 - at ≡ 5 = omega arith in rw e

pub code_below : (s : List ℕ) (at : ℕ) → at + 5 ≤ length s → all_digits s ≡ true → group_code (take (at + 5 - at) (drop at s)) < 100000
code_below s at l h =
    let part = take (at + 5 - at) (drop at s) in
    let d : all_digits part ≡ true = first_digits_lem (at + 5 - at) (drop at s) (last_digits at s h) in
    rw (number_is part d) (number_below 5 part (length_part s at 5 l) d)

-- one code more at the end
codes_suc : (n : ℕ) (s : List ℕ) → codes_from (suc n) s ≡ codes_from n s ++ (group_code (take 5 (drop (5 * n) s)) ∷ [])
unfolding codes_from
codes_suc zero s = refl
codes_suc (suc n) s =
    let e : 5 * suc n ≡ 5 + 5 * n = omega arith in
    rw (e, ← drop-drop (5 * n) 5 s) (ap (λ (cs : List ℕ). group_code (take 5 s) ∷ cs) (codes_suc n (drop 5 s)))

-- a turn of the loop: the codes so far and the one stored
pub codes_more : (s codes : List ℕ) (i c : ℕ) → i < length codes → take i codes ≡ codes_from i s → c ≡ group_code (take 5 (drop (5 * i) s)) → take (i + 1) (set codes i c) ≡ codes_from (i + 1) s
codes_more s codes i c l t e = rw (add-one, take-suc-set codes i c l, t, e, codes_suc i s)

-- the first of n codes
pub codes-kept : (n k : ℕ) (s : List ℕ) → take k (codes_from n s) ≡ codes_from (min n k) s
unfolding codes_from
codes-kept zero k s =
    let e : min 0 k ≡ 0 = omega arith in
    rw e (take-nil k)
codes-kept (suc n) zero s =
    let e : min (suc n) 0 ≡ 0 = omega arith in
    rw e
codes-kept (suc n) (suc k) s =
    let e : min (suc n) (suc k) ≡ suc (min n k) = omega arith in
    rw e (ap (λ (cs : List ℕ). group_code (take 5 s) ∷ cs) (codes-kept n k (drop 5 s)))

-- groups of five digits are codes, where all of it is digits
one_more : (n : ℕ) (s : List ℕ) → groups n (drop 5 s) ≡ cond (all_digits (drop 5 s)) (some (codes_from n (drop 5 s))) none → groups (suc n) s ≡ cond (all_digits s) (some (codes_from (suc n) s)) none
unfolding groups codes_from
one_more n s rest = go (all_digits (take 5 s)) (all_digits (drop 5 s)) refl refl
  where
    go : (a b : Bool) → all_digits (take 5 s) ≡ a → all_digits (drop 5 s) ≡ b → and_code (digits_of (take 5 s)) (groups n (drop 5 s)) ≡ cond (all_digits s) (some (group_code (take 5 s) ∷ codes_from n (drop 5 s))) none
    go false b e f = rw (in_parts 5 s, e, none_is (take 5 s) e)
    go true false e f = rw (in_parts 5 s, e, number_is (take 5 s) e, rest, f)
    go true true e f = rw (in_parts 5 s, e, number_is (take 5 s) e, rest, f)

groups_are : (n : ℕ) (s : List ℕ) → length s ≡ 5 * n → groups n s ≡ cond (all_digits s) (some (codes_from n s)) none
unfolding groups codes_from all_digits
groups_are zero [] l = refl
groups_are zero (b ∷ s) l = absurd (omega (arith, l))
groups_are (suc n) s l = one_more n s (groups_are n (drop 5 s) (simp length-drop (omega arith)))

-- the codes that an A0 admits
pub admitted_are : (s : List ℕ) → admitted_in s ≡ cond (eqb (length s % 5) 0 && all_digits s) (some (codes_from (length s / 5) s)) none
unfolding admitted_in
admitted_are s = go (eqb (length s % 5) 0) refl
  where
    go : (t : Bool) → eqb (length s % 5) 0 ≡ t → cond (eqb (length s % 5) 0) (groups (length s / 5) s) none ≡ cond (eqb (length s % 5) 0 && all_digits s) (some (codes_from (length s / 5) s)) none
    go false e = rw e
    go true e = rw e (groups_are (length s / 5) s (let z = eqb-true (length s % 5) 0 e in omega (arith, z)))
