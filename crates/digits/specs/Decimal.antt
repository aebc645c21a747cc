-- Numbers as decimal digits in ASCII (document 01, 'Envelope'). Assumes nothing.
use Rattle.std.specs.Prelude.{Bool, true, false, cond, ◌&&◌, List, [], ◌∷◌, ◌++◌, ℕ, zero, suc, ◌+◌, ◌*◌, ◌-◌, ◌/◌, ◌%◌, leb, Option, Some, None, is_some, unwrap_or}

-- 'compared as ASCII': a digit is a byte from 48, '0', to 57, '9'
abbrev pub is_digit : ℕ → Bool
is_digit b = leb 48 b && leb b 57

unfoldable pub all_digits : List ℕ → Bool
all_digits [] = true
all_digits (b ∷ s) = is_digit b && all_digits s

-- the number that n and then the digits of a list make
unfoldable pub number_from : ℕ → List ℕ → ℕ
number_from n [] = n
number_from n (b ∷ s) = number_from (n * 10 + (b - 48)) s

abbrev pub number_of : List ℕ → ℕ
number_of s = number_from 0 s

-- 'for a digit field .. its number .., or that it has none'
abbrev pub Digits : Type 0
Digits = Option ℕ

unfoldable pub digits_of : List ℕ → Digits
digits_of s = cond (all_digits s) (Some (number_of s)) None

-- whether there is a number, and the number, 0 where there is none
abbrev pub is_number : Digits → Bool
is_number d = is_some d

abbrev pub number_in : Digits → ℕ
number_in d = unwrap_or d 0

-- a number written as w digits
unfoldable pub digits : ℕ → ℕ → List ℕ
digits zero n = []
digits (suc w) n = digits w (n / 10) ++ ((48 + n % 10) ∷ [])
