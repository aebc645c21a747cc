-- The 6G1 (document 01, 'Envelope', 'Replies and writing'). Assumes nothing.
use Rattle.std.specs.Prelude.{Bool, cond, not, ◌&&◌, List, [], ◌∷◌, ◌++◌, ℕ, eqb, ltb, length, take, drop, get_or, replicate, None, Result, Ok, Err}
use Rattle.std.proofs.Math.Option.{Option, none, some}
use Rattle.digits.specs.Decimal.{all_digits, digits_of, digits}
use Rattle.layout.specs.Fields.{FieldEntry, readable, content, encoded}
use Rattle.addresses.specs.declared.Address.TheVariants.{Malformed}
use Rattle.addresses.specs.Addresses.{address_of, address_text, address_fits}
use Rattle.places.specs.Bids.{slash, malformed, columns, places_of, places_text, fits, places_fit}
use Rattle.envelope.specs.Refusals.{first_holding, unless_refused}
use Rattle.envelope.specs.declared.application.Field.{Field}
use Rattle.envelope.specs.declared.application.Field.TheVariants.{MessageType, Sender, Recipient, Cro, Date, Time, Check, Identifier, Bids, Name}
use Rattle.envelope.specs.declared.application.Fields.{Fields}
use Rattle.envelope.specs.declared.application.Unreadable.{Unreadable}
use Rattle.envelope.specs.declared.application.Application.{Application}
use Rattle.envelope.specs.declared.application.WriteRefusal.{WriteRefusal}
use Rattle.envelope.specs.declared.application.WriteRefusal.TheVariants.{Unfit, NoRoom}

-- an entry of a field that has one length
abbrev pub one : ℕ → ℕ → FieldEntry
one tag n = record { tag = tag; lengths = n ∷ [] }

-- and of one that has one of two
abbrev pub either : ℕ → ℕ → ℕ → FieldEntry
either tag short long = record { tag = tag; lengths = short ∷ long ∷ [] }

-- '6G1: 01 type (tag 01, 3); 040 sender (04, 5); 050 recipient (05, 5); 020 CRO (02, 11); D31 reference date (31, 8);
-- 601 reference time (60, 6); 010 check digit (10, 5); 6G0 operation identifier (70, 11); 6G6 bids (76, 240); 6GG contact name (7F, 15)';
-- 'Fields 040 and 050 of a 6G1 may each have length 5 or 14'
abbrev pub entry_of : Field → FieldEntry
entry_of MessageType = one 0x01 3
entry_of Sender = either 0x04 5 14
entry_of Recipient = either 0x05 5 14
entry_of Cro = one 0x02 11
entry_of Date = one 0x31 8
entry_of Time = one 0x60 6
entry_of Check = one 0x10 5
entry_of Identifier = one 0x70 11
entry_of Bids = one 0x76 240
entry_of Name = one 0x7f 15

-- 'in the order below'
unfoldable pub layout6_g1 : List FieldEntry
layout6_g1 =
    entry_of MessageType
    ∷ entry_of Sender
    ∷ entry_of Recipient
    ∷ entry_of Cro
    ∷ entry_of Date
    ∷ entry_of Time
    ∷ entry_of Check
    ∷ entry_of Identifier
    ∷ entry_of Bids
    ∷ entry_of Name
    ∷ []

-- a field's place in the layout, counted from 0
abbrev pub position : Field → ℕ
position MessageType = 0
position Sender = 1
position Recipient = 2
position Cro = 3
position Date = 4
position Time = 5
position Check = 6
position Identifier = 7
position Bids = 8
position Name = 9

abbrev pub bytes_of : Field → List ℕ → List ℕ
bytes_of f m = content (position f) m

-- 'Reading a 6G1 gives each field's bytes'; what is no 6G1 has none
unfoldable pub field_bytes : Field → List ℕ → List ℕ
field_bytes f m = cond (readable layout6_g1 m) (bytes_of f m) []

-- 'and, for a digit field or a place, its number or numbers, or that it has none'; the long form of an address 'reads as these, or as
-- having none'
unfoldable pub fields_of : List ℕ → Fields
fields_of m =
    record {
      sender = address_of (bytes_of Sender m);
      recipient = address_of (bytes_of Recipient m);
      cro = digits_of (bytes_of Cro m);
      date = digits_of (bytes_of Date m);
      time = digits_of (bytes_of Time m);
      check = digits_of (bytes_of Check m);
      places = places_of (bytes_of Bids m);
    }

-- what a refused reading counts as: no number at all
abbrev pub no_fields : Fields
no_fields =
    record { sender = Malformed; recipient = Malformed; cro = None; date = None; time = None; check = None; places = columns (replicate 10 malformed) }

-- '12. The message is not readable as a 6G1 envelope.'
abbrev pub unreadable : List ℕ → Bool
unreadable m = not (readable layout6_g1 m)

-- 'reading a 6G1 [checks] 12'
abbrev pub reading_refused : List ℕ → Option ℕ
reading_refused m = first_holding ((12, unreadable m) ∷ [])

unfoldable pub reading : List ℕ → Option ℕ × Fields
reading m = (reading_refused m, unless_refused (reading_refused m) no_fields (fields_of m))

-- the numbers of the answers, and what a refused reading gives
abbrev pub read_refusal : Result Fields Unreadable → Option ℕ
read_refusal (Ok f) = none
read_refusal (Err e) = some 12

abbrev pub fields_in : Result Fields Unreadable → Fields
fields_in (Ok f) = f
fields_in (Err e) = no_fields

-- 'operation identifier `T/yyyy/nnnn` (70, 11; y and n any digits)'
unfoldable pub is_identifier : List ℕ → Bool
is_identifier s =
    eqb (length s) 11
    && (eqb (get_or s 0 0) 84 && eqb (get_or s 1 0) slash && all_digits (take 4 (drop 2 s)) && eqb (get_or s 6 0) slash && all_digits (take 4 (drop 7 s)))

-- '17. A number is too wide for its field or a text is not of its length or the identifier malformed.'
unfoldable pub numbers_fit : Application → Bool
numbers_fit a =
    address_fits a.sender && address_fits a.recipient && fits 11 a.cro && fits 8 a.date && fits 6 a.time && fits 5 a.check && places_fit a.rates a.amounts

unfoldable pub texts_fit : List ℕ → List ℕ → List ℕ → Bool
texts_fit kind identifier name = eqb (length kind) 3 && is_identifier identifier && eqb (length name) 15

abbrev pub unfit : Application → List ℕ → List ℕ → List ℕ → Bool
unfit a kind identifier name = not (numbers_fit a && texts_fit kind identifier name)

-- 'Writing a 6G1 takes numbers for the digit fields (bids: ten places), text for the rest (type, identifier, name)'; 'The long form is
-- written from two numbers and a two-character text'
abbrev pub texts : Application → List ℕ → List ℕ → List ℕ → List (List ℕ)
texts a kind identifier name =
    kind
    ∷ address_text a.sender
    ∷ address_text a.recipient
    ∷ digits 11 a.cro
    ∷ digits 8 a.date
    ∷ digits 6 a.time
    ∷ digits 5 a.check
    ∷ identifier
    ∷ places_text a.rates a.amounts
    ∷ name
    ∷ []

unfoldable pub written : Application → List ℕ → List ℕ → List ℕ → List ℕ
written a kind identifier name = encoded layout6_g1 (texts a kind identifier name)

-- '18', for which 'writing needs the length of the message it writes'
abbrev pub no_room : Application → List ℕ → List ℕ → List ℕ → List ℕ → Bool
no_room a kind identifier name space = ltb (length space) (length (written a kind identifier name))

-- 'writing [checks] 17, 18'; 'Bytes past .. a written 6G1 stay'
abbrev pub writing_refused : Application → List ℕ → List ℕ → List ℕ → List ℕ → Option ℕ
writing_refused a kind identifier name space = first_holding ((17, unfit a kind identifier name) ∷ (18, no_room a kind identifier name space) ∷ [])

unfoldable pub write : Application → List ℕ → List ℕ → List ℕ → List ℕ → Option ℕ × List ℕ
write a kind identifier name space = (
  writing_refused a kind identifier name space,
  unless_refused (writing_refused a kind identifier name space) space (written a kind identifier name ++ drop (length (written a kind identifier name)) space),
)

abbrev pub write_refusal : {A : Type 0} → Result A WriteRefusal → Option ℕ
write_refusal (Ok a) = none
write_refusal (Err Unfit) = some 17
write_refusal (Err NoRoom) = some 18
