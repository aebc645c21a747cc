-- The return trip (demand 2): what was written reads back, and what was read is written as it was. Assumes nothing.
use Rattle.std.specs.Prelude.{◌≡◌, Bool, true, ◌&&◌, List, ◌++◌, ℕ, ◌≤◌, length, take, drop, replicate}
use Rattle.std.proofs.Math.Option.{none}
use Rattle.std.specs.Prelude.{Some}
use Rattle.digits.specs.Decimal.{is_number, number_in}
use Rattle.addresses.specs.Addresses.{is_address}
use Rattle.places.specs.Bids.{all_formed}
use Rattle.envelope.specs.declared.application.Field.TheVariants.{MessageType, Identifier, Name}
use Rattle.envelope.specs.declared.application.Fields.{Fields}
use Rattle.envelope.specs.declared.application.Application.{Application}
use Rattle.envelope.specs.Application.{field_bytes, is_identifier, reading, written, write}

-- the fields that a 6G1 written from an application has: each address and number as given, each place well formed
abbrev pub fields_from : Application → Fields
fields_from a =
    record {
      sender = a.sender;
      recipient = a.recipient;
      cro = Some a.cro;
      date = Some a.date;
      time = Some a.time;
      check = Some a.check;
      places = record { formed = replicate 10 true; rates = a.rates; amounts = a.amounts };
    }

-- '(bids: ten places)'; an application of the code always has them, its arrays being of ten
abbrev pub TenPlaces : Application → Type 0
TenPlaces a = (length a.rates ≡ 10) × (length a.amounts ≡ 10)

-- 'a written 6G1 reads back to its fields': all numbers, all ten places, all texts
abbrev pub WrittenReadsBack : Type 0
WrittenReadsBack =
    (a : Application) (kind identifier name space after : List ℕ)
    → TenPlaces a
    → write a kind identifier name space ≡ (none, after)
    → (reading (take (length (written a kind identifier name)) after) ≡ (none, fields_from a))
    × (field_bytes MessageType (take (length (written a kind identifier name)) after) ≡ kind)
    × (field_bytes Identifier (take (length (written a kind identifier name)) after) ≡ identifier)
    × (field_bytes Name (take (length (written a kind identifier name)) after) ≡ name)

-- 'readable messages whose digit fields are digits and identifier and places well formed'; 'Reading back holds for both forms, the
-- long one with its slashes and digits in place'
unfoldable pub all_well_formed : Fields → List ℕ → Bool
all_well_formed f identifier =
    is_address f.sender
    && is_address f.recipient
    && is_number f.cro
    && is_number f.date
    && is_number f.time
    && is_number f.check
    && all_formed f.places.formed
    && is_identifier identifier

-- the application that a message's own numbers make
abbrev pub application_from : Fields → Application
application_from f =
    record {
      sender = f.sender;
      recipient = f.recipient;
      cro = number_in f.cro;
      date = number_in f.date;
      time = number_in f.time;
      check = number_in f.check;
      rates = f.places.rates;
      amounts = f.places.amounts;
    }

-- 'and a readable one written from its fields gives its bytes'
abbrev pub ReadableWritesBack : Type 0
ReadableWritesBack =
    (m space : List ℕ) (f : Fields)
    → reading m ≡ (none, f)
    → all_well_formed f (field_bytes Identifier m) ≡ true
    → length m ≤ length space
    → write (application_from f) (field_bytes MessageType m) (field_bytes Identifier m) (field_bytes Name m) space ≡ (none, m ++ drop (length m) space)
