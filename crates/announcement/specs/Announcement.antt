-- The 6G0 (document 01, 'Envelope'). Assumes nothing.
use Rattle.std.specs.Prelude.{◌≡◌, Bool, true, false, cond, not, ◌&&◌, List, [], ◌∷◌, ℕ, ◌+◌, eqb, length, take, drop, get_or}
use Rattle.std.proofs.Math.Option.{Option, none, some}
use Rattle.calendar.specs.Calendar.{before}
use Rattle.std.specs.Prelude as told
use Rattle.digits.specs.Decimal.{all_digits, digits_of, number_in}
use Rattle.layout.specs.Fields.{FieldEntry, readable, content}
use Rattle.places.specs.Bids.{slash}
use Rattle.texts.specs.Texts.{same_text, ascii}
use Rattle.envelope.specs.Application.{one, is_identifier}
use Rattle.announcement.specs.declared.Field.{Field}
use Rattle.announcement.specs.declared.Field.TheVariants.{MessageType, Sender, Recipient, Cro, Date, Time, Identifier, TenderType, Characteristics, SpotDate, ForwardDate, Cutoff}
use Rattle.announcement.specs.declared.Side.{Side}
use Rattle.announcement.specs.declared.Side.TheVariants.{La, Lp}
use Rattle.announcement.specs.declared.Kind.{Kind}
use Rattle.announcement.specs.declared.Characteristics as characteristics
use Rattle.announcement.specs.declared.References.{References}
use Rattle.announcement.specs.declared.Announcement.{Announcement}

-- '6G0: 01, 040, 050, 020, D31, 601, 6G0 as above, then 6G1 type (71, 18), 6G2 characteristics (72, 100), 6G3 spot date (73, 8),
-- 6G4 forward date (74, 8), 6G5 cut-off hhmmss (75, 6)'
abbrev pub entry_of : Field → FieldEntry
entry_of MessageType = one 0x01 3
entry_of Sender = one 0x04 5
entry_of Recipient = one 0x05 5
entry_of Cro = one 0x02 11
entry_of Date = one 0x31 8
entry_of Time = one 0x60 6
entry_of Identifier = one 0x70 11
entry_of TenderType = one 0x71 18
entry_of Characteristics = one 0x72 100
entry_of SpotDate = one 0x73 8
entry_of ForwardDate = one 0x74 8
entry_of Cutoff = one 0x75 6

-- in this order
unfoldable pub layout6_g0 : List FieldEntry
layout6_g0 =
    entry_of MessageType
    ∷ entry_of Sender
    ∷ entry_of Recipient
    ∷ entry_of Cro
    ∷ entry_of Date
    ∷ entry_of Time
    ∷ entry_of Identifier
    ∷ entry_of TenderType
    ∷ entry_of Characteristics
    ∷ entry_of SpotDate
    ∷ entry_of ForwardDate
    ∷ entry_of Cutoff
    ∷ []

-- a field's place in the layout, counted from 0
abbrev pub position : Field → ℕ
position MessageType = 0
position Sender = 1
position Recipient = 2
position Cro = 3
position Date = 4
position Time = 5
position Identifier = 6
position TenderType = 7
position Characteristics = 8
position SpotDate = 9
position ForwardDate = 10
position Cutoff = 11

abbrev pub bytes_of : Field → List ℕ → List ℕ
bytes_of f m = content (position f) m

unfoldable pub field_bytes : Field → List ℕ → List ℕ
field_bytes f m = cond (readable layout6_g0 m) (bytes_of f m) []

-- 'LA or LP': the side that two letters name
abbrev pub side_named : List ℕ → Option Side
side_named s = cond (same_text s (ascii "LA")) (some La) (cond (same_text s (ascii "LP")) (some Lp) none)

-- 'Y or N': what the letter says
abbrev pub choice_named : List ℕ → Option Bool
choice_named s = cond (same_text s (ascii "Y")) (some true) (cond (same_text s (ascii "N")) (some false) none)

-- a tender of a side and a choice
abbrev pub tender_of : Side → Bool → told.Option Kind
tender_of side choice = told.Some (record { side = side; choice = choice })

-- a tender has both
abbrev pub tender_named : Option Side → Option Bool → told.Option Kind
tender_named none choice = told.None
tender_named (some side) none = told.None
tender_named (some side) (some choice) = tender_of side choice

-- '`NC/FD/` .. `/R/` .. `/VR/MR`' stand in their places
abbrev pub fixed_parts : List ℕ → Bool
fixed_parts s = same_text (take 6 s) (ascii "NC/FD/") && same_text (take 3 (drop 8 s)) (ascii "/R/") && same_text (take 6 (drop 12 s)) (ascii "/VR/MR")

-- 'The type is `NC/FD/` then LA or LP, `/R/`, Y or N, `/VR/MR`'
unfoldable pub tender_type_of : List ℕ → told.Option Kind
tender_type_of s =
    cond
    (eqb (length s) 18 && fixed_parts s)
    (tender_named (side_named (take 2 (drop 6 s))) (choice_named (take 1 (drop 11 s))))
    told.None

-- the types in full
abbrev pub type_text : Side → Bool → List ℕ
type_text La true = ascii "NC/FD/LA/R/Y/VR/MR"
type_text La false = ascii "NC/FD/LA/R/N/VR/MR"
type_text Lp true = ascii "NC/FD/LP/R/Y/VR/MR"
type_text Lp false = ascii "NC/FD/LP/R/N/VR/MR"

-- each of these four texts announces its tender, and no other text announces one
abbrev pub FourTypes : Type 0
FourTypes =
    (side : Side) (choice : Bool)
    → (tender_type_of (type_text side choice) ≡ tender_of side choice)
    × ((s : List ℕ) → tender_type_of s ≡ tender_of side choice → s ≡ type_text side choice)

-- 'The characteristics, joined by slashes: execution date (8), most bids (2), amount offered, minimum bid, increment, maximum total,
-- minimum allocation (15 each), limit rate (8)'
abbrev pub widths : List ℕ
widths = 8 ∷ 2 ∷ 15 ∷ 15 ∷ 15 ∷ 15 ∷ 15 ∷ 8 ∷ []

-- a text is, from an index to its end, digits of these widths, joined by slashes
unfoldable pub joined : ℕ → List ℕ → List ℕ → Bool
joined at [] s = eqb (length s) at
joined at (w ∷ []) s = all_digits (take w (drop at s)) && eqb (length s) (at + w)
joined at (w ∷ v ∷ ws) s = all_digits (take w (drop at s)) && eqb (get_or s (at + w) 0) slash && joined (at + w + 1) (v ∷ ws) s

-- and their numbers
unfoldable pub numbers_in : ℕ → List ℕ → List ℕ → List ℕ
numbers_in at [] s = []
numbers_in at (w ∷ ws) s = number_in (digits_of (take w (drop at s))) ∷ numbers_in (at + w + 1) ws s

abbrev pub characteristics_from : List ℕ → characteristics.Characteristics
characteristics_from ns =
    record {
      execution = get_or ns 0 0;
      most = get_or ns 1 0;
      offered = record { 0 = get_or ns 2 0 };
      minimum = record { 0 = get_or ns 3 0 };
      increment = record { 0 = get_or ns 4 0 };
      maximum = record { 0 = get_or ns 5 0 };
      allocation = record { 0 = get_or ns 6 0 };
      limit = record { 0 = get_or ns 7 0 };
    }

unfoldable pub characteristics_of : List ℕ → told.Option characteristics.Characteristics
characteristics_of s = cond (joined 0 widths s) (told.Some (characteristics_from (numbers_in 0 widths s))) told.None

-- the numbers, zeros where the field is malformed
abbrev pub characteristics_in : told.Option characteristics.Characteristics → characteristics.Characteristics
characteristics_in c = told.unwrap_or c (characteristics_from [])

-- what a 6G0 says
unfoldable pub references_of : List ℕ → References
references_of m =
    record {
      sender = digits_of (bytes_of Sender m);
      recipient = digits_of (bytes_of Recipient m);
      cro = digits_of (bytes_of Cro m);
      date = digits_of (bytes_of Date m);
      time = digits_of (bytes_of Time m);
    }

unfoldable pub announcement_of : List ℕ → Announcement
announcement_of m =
    record {
      references = references_of m;
      identified = is_identifier (bytes_of Identifier m);
      kind = tender_type_of (bytes_of TenderType m);
      characteristics = characteristics_of (bytes_of Characteristics m);
      spot = digits_of (bytes_of SpotDate m);
      forward = digits_of (bytes_of ForwardDate m);
      cutoff = digits_of (bytes_of Cutoff m);
    }

-- what is no 6G0 says nothing
unfoldable pub reading : List ℕ → told.Option Announcement
reading m = cond (readable layout6_g0 m) (told.Some (announcement_of m)) told.None

-- the dates stand in their order: the reference date not after the execution date, the spot date not before it, the forward date after
-- the spot date
abbrev pub dates_ordered : ℕ → ℕ → ℕ → ℕ → Bool
dates_ordered reference execution spot forward = not (before execution reference) && not (before spot execution) && before spot forward
