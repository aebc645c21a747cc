-- What a host in C is answered (document 01, 'Replies and writing'). Assumes nothing.
use Rattle.std.specs.Prelude.{cond, ◌&&◌, List, map, ℕ, eqb, length, get_or}
use Rattle.std.proofs.Math.Option.{Option, none, some}
use Rattle.layout.specs.Fields.{content}
use Rattle.addresses.specs.declared.Address.{Address}
use Rattle.addresses.specs.declared.Address.TheVariants.{Malformed, Code, Branch}
use Rattle.places.specs.declared.Rate.{Rate}
use Rattle.places.specs.declared.Amount.{Amount}
use Rattle.envelope.specs.declared.application.Application.{Application}
use Rattle.envelope.specs.Refusals.{unless_refused}
use Rattle.envelope.specs.Application.{reading_refused}
use Rattle.numbers.specs.ByNumber.{has_field}
use Rattle.numbers.specs.Numbers.{numbers_of, in_array}

-- the number of an answer: 0, or that of the refusal
abbrev pub answer_number : Option ℕ → ℕ
answer_number none = 0
answer_number (some n) = n

abbrev pub answered : {A : Type 0} → Option ℕ × A → ℕ × A
answered w = (answer_number w.0, w.1)

-- 'each field's bytes': how many they are
unfoldable pub length_of : ℕ → List ℕ → ℕ
length_of k m = cond (has_field k m) (length (content k m)) 0

-- 'reading a 6G1 [checks] 12': it gives as many of the numbers as the array has room for, and the entries past the 51 stay; a refused call leaves the array
unfoldable pub numbers_read : List ℕ → List ℕ → Option ℕ × List ℕ
numbers_read m array = (reading_refused m, unless_refused (reading_refused m) array (in_array (numbers_of m) array))

-- 'The long form is written from two numbers and a two-character text': the address of a code, a length, a second number and a text,
-- none where the length is that of neither form or the long form's text is not two characters
unfoldable pub address_from : ℕ → ℕ → ℕ → List ℕ → Address
address_from code n branch text = cond (eqb n 5) (Code code) (cond (eqb n 14 && eqb (length text) 2) (Branch code branch (get_or text 0 0) (get_or text 1 0)) Malformed)

abbrev pub rate_of : ℕ → Rate
rate_of n = record { 0 = n }

abbrev pub amount_of : ℕ → Amount
amount_of n = record { 0 = n }

-- the application of two addresses, the numbers of the other digit fields, and the rates and amounts of the places
abbrev pub application_of : Address → Address → ℕ → ℕ → ℕ → ℕ → List ℕ → List ℕ → Application
application_of sender recipient cro date time check rates amounts =
    record {
      sender = sender;
      recipient = recipient;
      cro = cro;
      date = date;
      time = time;
      check = check;
      rates = map rate_of rates;
      amounts = map amount_of amounts;
    }
