-- What the envelope promises to those above it besides the contracts of its functions. Assumes nothing.
use Rattle.std.specs.Prelude.{◌≡◌, true, List, ◌++◌, ℕ, ◌+◌, ◌≤◌, eqb, length}
use Rattle.digits.specs.Decimal.{digits}
use Rattle.layout.specs.Fields.{head, field, IsOneOf, readable, whole}
use Rattle.envelope.specs.declared.application.Field.{Field}
use Rattle.envelope.specs.declared.application.Field.TheVariants.{Sender, Recipient}
use Rattle.envelope.specs.Application.{entry_of, layout6_g1, position, bytes_of}

-- 'Fields 040 and 050 of a 6G1 may each have length 5 or 14, so it is 339, 348 or 357 bytes'
abbrev pub MessageLength : Type 0
MessageLength = (m : List ℕ) → readable layout6_g1 m ≡ true → length m ≡ 329 + length (bytes_of Sender m) + length (bytes_of Recipient m)

abbrev pub LongestMessage : Type 0
LongestMessage = (m : List ℕ) → readable layout6_g1 m ≡ true → length m ≤ 357

-- the sender has five bytes or more, and at most 14
abbrev pub SenderLength : Type 0
SenderLength = (m : List ℕ) → readable layout6_g1 m ≡ true → (5 ≤ length (bytes_of Sender m)) × (length (bytes_of Sender m) ≤ 14)

-- two addresses of ten bytes in all are both of the short form
abbrev pub ShortAddresses : Type 0
ShortAddresses =
    (m : List ℕ)
    → readable layout6_g1 m ≡ true
    → eqb (length (bytes_of Sender m) + length (bytes_of Recipient m)) 10 ≡ true
    → (length (bytes_of Sender m) ≡ 5) × (length (bytes_of Recipient m) ≡ 5)

-- each field of a readable 6G1 is within it
abbrev pub FieldWhole : Type 0
FieldWhole = (m : List ℕ) → readable layout6_g1 m ≡ true → (f : Field) → whole (position f) m ≡ true

-- 'with exactly these lengths': each field of a readable 6G1 has one of its entry's
abbrev pub FieldLength : Type 0
FieldLength = (m : List ℕ) → readable layout6_g1 m ≡ true → (f : Field) → IsOneOf (entry_of f).lengths (length (bytes_of f m))

-- a head that gives w bytes, and a number in w digits, are a field
abbrev pub NumberField : Type 0
NumberField = (tag w n : ℕ) → head tag w ++ digits w n ≡ field tag (digits w n)
