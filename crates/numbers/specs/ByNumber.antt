-- The fields and places of a 6G1 by their numbers, for a host in C (document 01, 'Replies and writing'). Assumes nothing.
use Rattle.std.specs.Prelude.{Bool, true, false, cond, ◌&&◌, List, [], ◌∷◌, ℕ, ◌+◌, ltb, get_or}
use Rattle.digits.specs.Decimal.{Digits}
use Rattle.std.specs.Prelude.{None}
use Rattle.layout.specs.Fields.{readable, offset}
use Rattle.addresses.specs.Addresses.{code_digits}
use Rattle.places.specs.declared.Place.{Place}
use Rattle.places.specs.declared.Places.{Places}
use Rattle.envelope.specs.declared.application.Fields.{Fields}
use Rattle.envelope.specs.Application.{layout6_g1, reading}

-- whether something is there: 1, or 0 where it is not
abbrev pub flag : Bool → ℕ
flag false = 0
flag true = 1

-- a message has the fields 0 to 9 of the layout, or none
unfoldable pub has_field : ℕ → List ℕ → Bool
has_field k m = readable layout6_g1 m && ltb k 10

-- 'each field's bytes': where they start
unfoldable pub start_of : ℕ → List ℕ → ℕ
start_of k m = cond (has_field k m) (offset k m + 3) 0

-- the digit fields of a reading by their numbers; field 0, the type, and those after 6 have none
unfoldable pub numbered : ℕ → Fields → Digits
numbered k f = get_or (None ∷ code_digits f.sender ∷ code_digits f.recipient ∷ f.cro ∷ f.date ∷ f.time ∷ f.check ∷ []) k None

-- 'for a digit field .. its number .., or that it has none'
unfoldable pub field_digits : ℕ → List ℕ → Digits
field_digits k m = numbered k (reading m).1

-- 'for .. a place, its .. numbers, or that it has none', the places counted from 0
unfoldable pub place_numbered : ℕ → Places → Place
place_numbered k ps =
    record {
      formed = get_or ps.formed k false;
      rate = get_or ps.rates k (record { 0 = 0 });
      amount = get_or ps.amounts k (record { 0 = 0 });
    }

unfoldable pub place_at : ℕ → List ℕ → Place
place_at k m = place_numbered k (reading m).1.places
