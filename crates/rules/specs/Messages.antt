-- The messages of the tables: one tender, its announcement and applications to it. A row that alters one names the field and its text.
-- Assumes nothing.
use Rattle.std.specs.Prelude.{List, [], ◌∷◌, ◌++◌, map, ℕ, zero, suc, replicate, set, take}
use Prim.Native.String.{String}
use Rattle.layout.specs.Fields.{encoded}
use Rattle.addresses.specs.declared.Address.{Address}
use Rattle.addresses.specs.declared.Address.TheVariants.{Code}
use Rattle.places.specs.declared.Rate.{Rate}
use Rattle.places.specs.declared.Amount.{Amount}
use Rattle.texts.specs.Texts.{ascii}
use Rattle.envelope.specs.declared.application.Field.{Field as ApplicationField}
use Rattle.envelope.specs.declared.application.Application.{Application}
use Rattle.envelope.specs.Application.{layout6_g1, position as applicationPosition, texts, written}
use Rattle.announcement.specs.declared.Field.{Field as AnnouncementField}
use Rattle.announcement.specs.Announcement.{layout6_g0, position as announcementPosition}
use Rattle.rules.specs.Opening.{Admission, uncapped, Terms, terms_of}
use Rattle.rules.specs.Receiving.{Reception}
use Rattle.rules.specs.Calls.{reply_space}

infix 68 ◌is◌
-- a name, and the text that a row gives it
abbrev pub ◌is◌ : {A : Type 0} → A → String → A × List ℕ
name is text = (name, ascii text)

-- texts of which some are altered; each name has its place among them
unfoldable pub altered : {A : Type 0} → (A → ℕ) → List (A × List ℕ) → List (List ℕ) → List (List ℕ)
altered place [] ts = ts
altered place (c ∷ changes) ts = altered place changes (set ts (place c.0) c.1)

-- the parts of the characteristics, in their order
pub data Part : Type 0 where
  Execution Most Offered Minimum Increment Maximum Allocation Limit : Part

abbrev pub part_position : Part → ℕ
part_position Execution = 0
part_position Most = 1
part_position Offered = 2
part_position Minimum = 3
part_position Increment = 4
part_position Maximum = 5
part_position Allocation = 6
part_position Limit = 7

-- 'joined by slashes'
unfoldable pub by_slashes : List (List ℕ) → List ℕ
by_slashes [] = []
by_slashes (s ∷ []) = s
by_slashes (s ∷ t ∷ ts) = s ++ ascii "/" ++ by_slashes (t ∷ ts)

-- 'Tender LP of 12032012, most bids 3, amount offered 100000, minimum and increment 10000, no maximum, minimum allocation 0, limit 00100000'
unfoldable pub characteristics_with : List (Part × List ℕ) → List ℕ
characteristics_with parts =
    by_slashes
    (altered part_position parts
    (ascii "12032012"
    ∷ ascii "03"
    ∷ ascii "000000000100000"
    ∷ ascii "000000000010000"
    ∷ ascii "000000000010000"
    ∷ ascii "000000000000000"
    ∷ ascii "000000000000000"
    ∷ ascii "00100000"
    ∷ []))

-- '.. cut-off 110000': its announcement, with other texts in some fields and in some parts of the characteristics
unfoldable pub announcement_with : List (AnnouncementField × List ℕ) → List (Part × List ℕ) → List ℕ
announcement_with fields parts =
    encoded layout6_g0
    (altered announcementPosition fields
    (ascii "6G0"
    ∷ ascii "01000"
    ∷ ascii "90001"
    ∷ ascii "00000000001"
    ∷ ascii "12032012"
    ∷ ascii "093000"
    ∷ ascii "T/2012/0001"
    ∷ ascii "NC/FD/LP/R/Y/VR/MR"
    ∷ characteristics_with parts
    ∷ ascii "14032012"
    ∷ ascii "15032012"
    ∷ ascii "110000"
    ∷ []))

unfoldable pub announcement : List ℕ
announcement = announcement_with [] []

-- '.. codes 90001 to 90003'
abbrev pub admitted : List ℕ
admitted = 90001 ∷ 90002 ∷ 90003 ∷ []

abbrev pub admission : Admission
admission = uncapped admitted

unfoldable pub terms : Terms
terms = terms_of announcement admission

-- bids from the first place on, and zeros in the places after them
abbrev pub Pairs : Type 0
Pairs = List (ℕ × ℕ)

abbrev pub first_rate : ℕ × ℕ → Rate
first_rate p = record { 0 = p.0 }

abbrev pub first_amount : ℕ × ℕ → Amount
first_amount p = record { 0 = p.1 }

unfoldable pub ten : Pairs → Pairs
ten ps = take 10 (ps ++ replicate 10 (0, 0))

-- a 6G1 to this tender, from an address to an address at a reference time
unfoldable pub numbers_between : Address → Address → ℕ → Pairs → Application
numbers_between from to time ps =
    record { sender = from; recipient = to; cro = 1; date = 12032012; time = time; check = 0; rates = map first_rate (ten ps); amounts = map first_amount (ten ps) }

-- and from a code
unfoldable pub numbers : ℕ → ℕ → Pairs → Application
numbers code time ps = numbers_between (Code code) (Code 1000) time ps

unfoldable pub message : ℕ → ℕ → Pairs → List ℕ
message code time ps = written (numbers code time ps) (ascii "6G1") (ascii "T/2012/0001") (ascii "CONTACT NAME   ")

-- the same with other texts in some fields
unfoldable pub message_with : List (ApplicationField × List ℕ) → ℕ → ℕ → Pairs → List ℕ
message_with fields code time ps =
    encoded layout6_g1 (altered applicationPosition fields (texts (numbers code time ps) (ascii "6G1") (ascii "T/2012/0001") (ascii "CONTACT NAME   ")))

-- places of zeros, as text
unfoldable pub zero_places : ℕ → List ℕ
zero_places zero = []
zero_places (suc n) = ascii "00000000/000000000000000" ++ zero_places n

-- the reception of a message on the execution date
unfoldable pub reception : ℕ → List ℕ → Reception
reception time m = record { message = m; date = 12032012; time = time; space = replicate reply_space 0 }
