-- The address of a sender or recipient (change request S-1). Assumes nothing.
use Rattle.std.specs.Prelude.{Bool, true, false, cond, ◌&&◌, List, [], ◌∷◌, ◌++◌, ℕ, eqb, ltb, length, take, drop, get_or}
use Rattle.digits.specs.Decimal.{Digits}
use Rattle.std.specs.Prelude.{Some, None}
use Rattle.digits.specs.Decimal.{all_digits, number_of, digits_of, digits}
use Rattle.addresses.specs.declared.Address.{Address}
use Rattle.addresses.specs.declared.Address.TheVariants.{Malformed, Code, Branch}

-- the short form: five digits
abbrev pub code_address : Digits → Address
code_address None = Malformed
code_address (Some n) = Code n

-- 'the long sender and recipient form of the layout: five digits, slash, five digits, slash, two characters, 14 in all'
unfoldable pub is_branch : List ℕ → Bool
is_branch s = all_digits (take 5 s) && eqb (get_or s 5 0) 47 && all_digits (take 5 (drop 6 s)) && eqb (get_or s 11 0) 47

-- it 'reads as these, or as having none if a slash or digit is out of place': two numbers and two bytes
unfoldable pub branch_address : List ℕ → Address
branch_address s = cond (is_branch s) (Branch (number_of (take 5 s)) (number_of (take 5 (drop 6 s))) (get_or s 12 0) (get_or s 13 0)) Malformed

-- 'Fields 040 and 050 of a 6G1 may each have length 5 or 14'
unfoldable pub address_of : List ℕ → Address
address_of s = cond (eqb (length s) 5) (code_address (digits_of s)) (cond (eqb (length s) 14) (branch_address s) Malformed)

-- 'The long form is written from two numbers and a two-character text'
unfoldable pub address_text : Address → List ℕ
address_text Malformed = []
address_text (Code n) = digits 5 n
address_text (Branch c b x y) = digits 5 c ++ 47 ∷ digits 5 b ++ 47 ∷ x ∷ y ∷ []

-- how many bytes it takes
abbrev pub address_length : Address → ℕ
address_length Malformed = 0
address_length (Code n) = 5
address_length (Branch c b x y) = 14

-- whether there is one
abbrev pub is_address : Address → Bool
is_address Malformed = false
is_address (Code n) = true
is_address (Branch c b x y) = true

-- whether it can be written: refusal 17 covers numbers wider than five digits
abbrev pub address_fits : Address → Bool
address_fits Malformed = false
address_fits (Code n) = ltb n 100000
address_fits (Branch c b x y) = ltb c 100000 && ltb b 100000

-- 'Admission looks at a sender's first five digits': branches of one code are one counterparty
abbrev pub code_in : Address → ℕ
code_in Malformed = 0
code_in (Code n) = n
code_in (Branch c b x y) = c

-- the same as what a digit field holds: the number of an address is its code
abbrev pub code_digits : Address → Digits
code_digits Malformed = None
code_digits (Code n) = Some n
code_digits (Branch c b x y) = Some c

-- the second number of a long form
abbrev pub branch_in : Address → ℕ
branch_in Malformed = 0
branch_in (Code n) = 0
branch_in (Branch c b x y) = b

-- where the two characters of a long form start: behind its digits and slashes
abbrev pub text_start : ℕ
text_start = 12
