-- The clock of a field, of which the last eight bytes hold the time and the end of the date. Assumes nothing.
use mathlib.Core.Path.{◌≡◌, refl, sym, ap, ◌∙◌}
use mathlib.Core.Bool.{Bool, true, false, cond, ◌&&◌}
use mathlib.Core.List.{List, [], ◌∷◌, ◌++◌}
use Prim.Native.Nat.{ℕ}
use lib.ListN.{take, drop}
use lib.Seq.{drop-drop}
use Rattle.digits.specs.Decimal.{all_digits, is_number, digits_of, number_in}
use Rattle.digits.proofs.Reading.{number_is, none_is, digits_join}
use Rattle.log_rules.specs.Steps.{date_in, time_in, date_of}

-- the bytes after the first two of eight
after_two : (x : List ℕ) → drop 2 (take 8 x) ≡ take 6 (drop 2 x)
after_two [] = refl
after_two (a ∷ []) = refl
after_two (a ∷ b ∷ x) = refl

pub time-bytes : (s : List ℕ) → drop 2 (take 8 (drop 6 s)) ≡ time_in s
time-bytes s = after_two (drop 6 s) ∙ ap (take 6) (drop-drop 2 6 s)

-- a field of digits has a number
number_there : (x : List ℕ) (t : Bool) → is_number (digits_of x) ≡ t → all_digits x ≡ t
number_there x t h = go (all_digits x) refl
  where
    go : (b : Bool) → all_digits x ≡ b → all_digits x ≡ t
    go true e = e ∙ sym (ap is_number (number_is x e)) ∙ h
    go false e = e ∙ sym (ap is_number (none_is x e)) ∙ h

clock_parts : (s : List ℕ) → all_digits (take 14 s) ≡ (all_digits (date_in s) && all_digits (time_in s))
clock_parts s = ap all_digits (parts s) ∙ digits_join (date_in s) (time_in s)
  where
    parts : (s : List ℕ) → take 14 s ≡ take 8 s ++ take 6 (drop 8 s)
    parts [] = refl
    parts (a ∷ []) = refl
    parts (a ∷ b ∷ []) = refl
    parts (a ∷ b ∷ c ∷ []) = refl
    parts (a ∷ b ∷ c ∷ d ∷ []) = refl
    parts (a ∷ b ∷ c ∷ d ∷ e ∷ []) = refl
    parts (a ∷ b ∷ c ∷ d ∷ e ∷ f ∷ []) = refl
    parts (a ∷ b ∷ c ∷ d ∷ e ∷ f ∷ g ∷ []) = refl
    parts (a ∷ b ∷ c ∷ d ∷ e ∷ f ∷ g ∷ h ∷ s) = refl

pub date-told : (s : List ℕ) → is_number (digits_of (time_in s)) ≡ true → number_in (digits_of (date_in s)) ≡ date_of s
unfolding date_of
date-told s h = go (all_digits (date_in s)) refl
  where
    go : (b : Bool) → all_digits (date_in s) ≡ b → number_in (digits_of (date_in s)) ≡ cond (all_digits (take 14 s)) (number_in (digits_of (date_in s))) 0
    go true e = sym (rw (clock_parts s, e, number_there (time_in s) true h) refl)
    go false e = ap number_in (none_is (date_in s) e) ∙ sym (rw (clock_parts s, e) refl)

pub no_date : (s : List ℕ) → is_number (digits_of (time_in s)) ≡ false → 0 ≡ date_of s
unfolding date_of
no_date s h = go (all_digits (date_in s)) refl
  where
    go : (b : Bool) → all_digits (date_in s) ≡ b → 0 ≡ cond (all_digits (take 14 s)) (number_in (digits_of (date_in s))) 0
    go true e = sym (rw (clock_parts s, e, number_there (time_in s) false h) refl)
    go false e = sym (rw (clock_parts s, e) refl)
