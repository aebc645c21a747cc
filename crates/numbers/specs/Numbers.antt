-- A 6G1 as one list of numbers, for a host in C that asks for all of it by one call (document 01, 'Replies and writing'). Assumes nothing.
use Rattle.std.specs.Prelude.{List, [], ◌∷◌, ◌++◌, ℕ, zero, suc, ◌+◌, length, take, drop}
use Rattle.digits.specs.Decimal.{Digits}
use Rattle.digits.specs.Decimal.{is_number, number_in}
use Rattle.addresses.specs.declared.Address.{Address}
use Rattle.addresses.specs.declared.Address.TheVariants.{Malformed, Code, Branch}
use Rattle.addresses.specs.Addresses.{text_start}
use Rattle.places.specs.declared.Place.{Place}
use Rattle.envelope.specs.Application.{reading}
use Rattle.numbers.specs.ByNumber.{flag, start_of, field_digits, place_at}

-- a digit field: its number, 0 where it has none, and whether it has one
unfoldable pub digit_numbers : Digits → List ℕ
digit_numbers d = number_in d ∷ flag (is_number d) ∷ []

-- a place: its rate and its amount, 0 where it is malformed, and whether it is well formed
unfoldable pub place_numbers : Place → List ℕ
place_numbers p = p.rate.0 ∷ p.amount.0 ∷ flag p.formed ∷ []

-- the digit fields: the codes of sender and recipient, CRO, reference date, reference time and check digit
unfoldable pub fields_numbers : List ℕ → List ℕ
fields_numbers m =
    digit_numbers (field_digits 1 m)
    ++ digit_numbers (field_digits 2 m)
    ++ digit_numbers (field_digits 3 m)
    ++ digit_numbers (field_digits 4 m)
    ++ digit_numbers (field_digits 5 m)
    ++ digit_numbers (field_digits 6 m)

-- the first n places, one after the other
unfoldable pub places_numbers : ℕ → List ℕ → List ℕ
places_numbers zero m = []
places_numbers (suc k) m = places_numbers k m ++ place_numbers (place_at k m)

-- where the bytes of type, identifier and name start
unfoldable pub text_starts : List ℕ → List ℕ
text_starts m = start_of 0 m ∷ start_of 7 m ∷ start_of 9 m ∷ []

-- an address: whether it is a long form that was read, and of such a form its second number and where its two characters are
unfoldable pub address_numbers : Address → ℕ → List ℕ
address_numbers Malformed text = 0 ∷ 0 ∷ 0 ∷ []
address_numbers (Code n) text = 0 ∷ 0 ∷ 0 ∷ []
address_numbers (Branch c b x y) text = 1 ∷ b ∷ text ∷ []

-- sender and recipient
unfoldable pub addresses_numbers : List ℕ → List ℕ
addresses_numbers m = address_numbers (reading m).1.sender (start_of 1 m + text_start) ++ address_numbers (reading m).1.recipient (start_of 2 m + text_start)

-- the 51 numbers of a message
unfoldable pub numbers_of : List ℕ → List ℕ
numbers_of m = fields_numbers m ++ places_numbers 10 m ++ text_starts m ++ addresses_numbers m

-- as many numbers as an array has room for; its entries past them stay
unfoldable pub in_array : List ℕ → List ℕ → List ℕ
in_array all array = take (length array) all ++ drop (length all) array
