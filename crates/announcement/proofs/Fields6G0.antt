-- Laws of the fields of a readable 6G0. Assumes nothing.
use mathlib.Core.Path.{◌≡◌, refl}
use mathlib.Core.Logic.{◌≢◌}
use mathlib.Core.Bool.{true, false}
use mathlib.Core.List.{List, [], ◌∷◌}
use Prim.Native.Nat.{ℕ}
use lib.ListN.{length}
use Rattle.layout.specs.Fields.{readable, whole}
use Rattle.layout.proofs.ReturnTrip.{Stands, field-whole}
use Rattle.layout.proofs.Fixed.{fixed, bytes_in, other_length}
use Rattle.announcement.specs.declared.Field.{Field}
use Rattle.announcement.specs.declared.Field.TheVariants.{MessageType, Sender, Recipient, Cro, Date, Time, Identifier, TenderType, Characteristics, SpotDate, ForwardDate, Cutoff}
use Rattle.announcement.specs.Announcement.{entry_of, layout6_g0, position}

-- the tags and lengths of a 6G0, in their order
abbrev fields6_g0 : List (ℕ × ℕ)
fields6_g0 =
    (0x01, 3)
    ∷ (0x04, 5)
    ∷ (0x05, 5)
    ∷ (0x02, 11)
    ∷ (0x31, 8)
    ∷ (0x60, 6)
    ∷ (0x70, 11)
    ∷ (0x71, 18)
    ∷ (0x72, 100)
    ∷ (0x73, 8)
    ∷ (0x74, 8)
    ∷ (0x75, 6)
    ∷ []

-- what is not as long is not readable
pub other_length_6g0 : (m : List ℕ) → length m ≢ 225 → false ≡ readable layout6_g0 m
unfolding layout6_g0 fixed bytes_in
other_length_6g0 m h = other_length fields6_g0 m h

-- each entry stands in the layout at its field's place
pub placed : (f : Field) → Stands layout6_g0 (position f) (entry_of f)
unfolding layout6_g0 Stands
placed MessageType = refl
placed Sender = refl
placed Recipient = refl
placed Cro = refl
placed Date = refl
placed Time = refl
placed Identifier = refl
placed TenderType = refl
placed Characteristics = refl
placed SpotDate = refl
placed ForwardDate = refl
placed Cutoff = refl

pub whole-field : (m : List ℕ) → readable layout6_g0 m ≡ true → (f : Field) → whole (position f) m ≡ true
whole-field m h f = field-whole layout6_g0 m h (position f) (entry_of f) (placed f)
