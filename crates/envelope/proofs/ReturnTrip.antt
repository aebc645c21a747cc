-- The return trip of a 6G1, both ways. Assumes nothing.
use mathlib.Core.Path.{◌≡◌, refl, sym, ap, ap₂, ◌∙◌}
use mathlib.Core.Bool.{Bool, true, false, ◌&&◌, false≢true}
use mathlib.Core.List.{List, [], ◌∷◌, ◌++◌, map}
use mathlib.Core.Option.{Option, none, some}
use Prim.Native.Nat.{ℕ, ◌<◌, ◌^◌}
use native.Mathlib.Omega.{arith}
use lib.Dec.{ltb, lit<}
use lib.ListN.{length, take, drop, get_or}
use lib.Seq.{take_at}
use borrow.Author.Tests.{ltb-true, lt-ltb, le-ltb, eq-eqb}
use Rattle.laws.proofs.Tests.{and_left, and_right}
use Rattle.digits.specs.Decimal.{Digits}
use Rattle.std.proofs.Common.{Some, None}
use Rattle.digits.specs.Decimal.{digits, digits_of, is_number, number_in}
use Rattle.digits.proofs.Reading.{is_number_lem, number_below}
use Rattle.digits.proofs.Writing.{length_digits, read-written, number-written}
use Rattle.layout.specs.Fields.{one_of, readable, content, encoded}
use Rattle.layout.proofs.ReturnTrip.{narrow, permits, readable-encoded, content-encoded, contents_from, encoded_back}
use Rattle.addresses.specs.declared.Address.{Address}
use Rattle.addresses.specs.declared.Address.TheVariants.{Malformed, Code, Branch}
use Rattle.addresses.specs.Addresses.{address_of, address_text, address_fits, is_address}
use Rattle.addresses.proofs.ReturnTrip.{length_address, address_back, address_written}
use Rattle.places.specs.Bids.{fits, places_fit, places_of, all_formed}
use Rattle.places.proofs.Writing.{length-places}
use Rattle.places.proofs.ReturnTrip.{places_back, places-written, places_fit_lem}
use Rattle.envelope.specs.declared.application.Field.{Field}
use Rattle.envelope.specs.declared.application.Field.TheVariants.{MessageType, Sender, Recipient, Cro, Date, Time, Check, Identifier, Bids, Name}
use Rattle.envelope.specs.declared.application.Fields.{Fields}
use Rattle.envelope.specs.declared.application.Application.{Application}
use Rattle.envelope.specs.Refusals.{first_holding}
use Rattle.envelope.specs.Application.{layout6_g1, position, bytes_of, field_bytes, fields_of, reading, is_identifier, numbers_fit, texts_fit, texts, written, write}
use Rattle.envelope.specs.ReturnTrip.{fields_from, TenPlaces, WrittenReadsBack, all_well_formed, application_from, ReadableWritesBack}
use Rattle.envelope.proofs.Fields6G1.{length-field}
use Rattle.envelope.proofs.Writing.{length_kind, length-identifier, length_name}

-- seven tests that hold together
seven : (a b c d e f g : Bool) → a && b && c && d && e && f && g ≡ true → (a ≡ true) × (b ≡ true) × (c ≡ true) × (d ≡ true) × (e ≡ true) × (f ≡ true) × (g ≡ true)
seven a b c d e f g h =
    let six = and_left (a && b && c && d && e && f) g h in
    let five = and_left (a && b && c && d && e) f six in
    let four = and_left (a && b && c && d) e five in
    let three = and_left (a && b && c) d four in
    let two = and_left (a && b) c three in
    (and_left a b two, and_right a b two, and_right (a && b) c three, and_right (a && b && c) d four, and_right (a && b && c && d) e five, and_right (a && b && c && d && e) f six, and_right (a && b && c && d && e && f) g h)

-- an address that fits has one of the two lengths
permits_address : (a : Address) → address_fits a ≡ true → one_of (5 ∷ 14 ∷ []) (length (address_text a)) ≡ true
unfolding one_of
permits_address Malformed h = absurd (false≢true h)
permits_address (Code n) h = rw (length_address (Code n))
permits_address (Branch c b x y) h = rw (length_address (Branch c b x y))

-- a 6G1 written from numbers and texts that fit
module _ (a : Application) (kind identifier name : List ℕ) (ten : TenPlaces a) (nf : numbers_fit a ≡ true) (tf : texts_fit kind identifier name ≡ true) where
  fit : (address_fits a.sender ≡ true) × (address_fits a.recipient ≡ true) × (fits 11 a.cro ≡ true) × (fits 8 a.date ≡ true) × (fits 6 a.time ≡ true) × (fits 5 a.check ≡ true) × (places_fit a.rates a.amounts ≡ true)
  unfolding numbers_fit
  fit = seven (address_fits a.sender) (address_fits a.recipient) (fits 11 a.cro) (fits 8 a.date) (fits 6 a.time) (fits 5 a.check) (places_fit a.rates a.amounts) nf

  one-length : (n : ℕ) → one_of (n ∷ []) n ≡ true
  unfolding one_of
  one-length n = rw (eq-eqb n n refl)

  permitted : permits layout6_g1 (map length (texts a kind identifier name)) ≡ true
  unfolding layout6_g1 permits
  permitted = simp (permits_address a.sender fit.0, permits_address a.recipient fit.1, one-length, length_digits, length_kind kind identifier name tf, length-identifier kind identifier name tf, length_name kind identifier name tf, length-places 10 a.rates a.amounts ten.0 ten.1)

  readable-written : readable layout6_g1 (written a kind identifier name) ≡ true
  unfolding written layout6_g1 narrow
  readable-written = readable-encoded layout6_g1 (texts a kind identifier name) refl permitted

  content-written : (k : ℕ) → k < 10 → content k (written a kind identifier name) ≡ get_or (texts a kind identifier name) k []
  unfolding written layout6_g1 narrow
  content-written k l = content-encoded layout6_g1 (texts a kind identifier name) refl permitted k l

  -- the number in a field of w digits reads back
  number_back : (f : Field) (w n : ℕ) → position f < 10 → get_or (texts a kind identifier name) (position f) [] ≡ digits w n → fits w n ≡ true → digits_of (bytes_of f (written a kind identifier name)) ≡ Some n
  number_back f w n l e h = ap digits_of (content-written (position f) l ∙ e) ∙ read-written w n (ltb-true n (10 ^ w) h)

  fields_written : fields_of (written a kind identifier name) ≡ fields_from a
  unfolding fields_of places_of
  fields_written =
      let w = fit in
      let sender = ap address_of (content-written 1 (lit< tt)) ∙ address_back a.sender w.0 in
      let recipient = ap address_of (content-written 2 (lit< tt)) ∙ address_back a.recipient w.1 in
      let cro = number_back Cro 11 a.cro (lit< tt) refl w.2 in
      let date = number_back Date 8 a.date (lit< tt) refl w.3 in
      let time = number_back Time 6 a.time (lit< tt) refl w.4 in
      let check = number_back Check 5 a.check (lit< tt) refl w.5 in
      let places = ap places_of (content-written 8 (lit< tt)) ∙ places_back 10 a.rates a.amounts ten.0 ten.1 w.6 in
      λ i. record { sender = sender i; recipient = recipient i; cro = cro i; date = date i; time = time i; check = check i; places = places i }

  reading-written : reading (written a kind identifier name) ≡ (none, fields_from a)
  unfolding reading first_holding
  reading-written = rw (readable-written, fields_written)

  bytes-written : (f : Field) → position f < 10 → field_bytes f (written a kind identifier name) ≡ get_or (texts a kind identifier name) (position f) []
  unfolding field_bytes
  bytes-written f l = rw readable-written (content-written (position f) l)

  take-written : (rest : List ℕ) → take (length (written a kind identifier name)) (written a kind identifier name ++ rest) ≡ written a kind identifier name
  take-written rest = take_at (written a kind identifier name) rest (length (written a kind identifier name)) refl

-- where writing is not refused, numbers and texts fit and there is room, and the message stands at the start
module _ (a : Application) (kind identifier name space after : List ℕ) (h : write a kind identifier name space ≡ (none, after)) where
  accepted : (numbers_fit a && texts_fit kind identifier name ≡ true) × (ltb (length space) (length (written a kind identifier name)) ≡ false)
  unfolding write first_holding
  accepted = go (numbers_fit a && texts_fit kind identifier name) refl (ltb (length space) (length (written a kind identifier name))) refl
    where
      go : (t : Bool) → numbers_fit a && texts_fit kind identifier name ≡ t → (u : Bool) → ltb (length space) (length (written a kind identifier name)) ≡ u → (numbers_fit a && texts_fit kind identifier name ≡ true) × (ltb (length space) (length (written a kind identifier name)) ≡ false)
      go true p false q = (p, q)
      go true p true q = absurd (let z : ◌≡◌ {A = Option ℕ} (some 18) none = rw (p, q) at (ap (λ (r : Option ℕ × List ℕ). r.0) h) in let y : ◌≡◌ {A = ℕ} 0 1 = cc in omega arith)
      go false p u q = absurd (let z : ◌≡◌ {A = Option ℕ} (some 17) none = rw p at (ap (λ (r : Option ℕ × List ℕ). r.0) h) in let y : ◌≡◌ {A = ℕ} 0 1 = cc in omega arith)

  after_is : after ≡ written a kind identifier name ++ drop (length (written a kind identifier name)) space
  unfolding write first_holding
  after_is = sym (rw (accepted.0, accepted.1) at (ap (λ (r : Option ℕ × List ℕ). r.1) h))

pub written_reads_back : WrittenReadsBack
written_reads_back a kind identifier name space after ten h =
    let p = (accepted a kind identifier name space after h).0 in
    let nf = and_left (numbers_fit a) (texts_fit kind identifier name) p in
    let tf = and_right (numbers_fit a) (texts_fit kind identifier name) p in
    let e = ap (take (length (written a kind identifier name))) (after_is a kind identifier name space after h) ∙ take-written a kind identifier name ten nf tf (drop (length (written a kind identifier name)) space) in (
      ap reading e ∙ reading-written a kind identifier name ten nf tf,
      ap (field_bytes MessageType) e ∙ bytes-written a kind identifier name ten nf tf MessageType (lit< tt),
      ap (field_bytes Identifier) e ∙ bytes-written a kind identifier name ten nf tf Identifier (lit< tt),
      ap (field_bytes Name) e ∙ bytes-written a kind identifier name ten nf tf Name (lit< tt),
    )

-- where reading is not refused, the message is readable and has these fields
module _ (m : List ℕ) (f : Fields) (h : reading m ≡ (none, f)) where
  read-accepted : readable layout6_g1 m ≡ true
  unfolding reading first_holding
  read-accepted = go (readable layout6_g1 m) refl
    where
      go : (t : Bool) → readable layout6_g1 m ≡ t → readable layout6_g1 m ≡ true
      go true p = p
      go false p = absurd (let z : ◌≡◌ {A = Option ℕ} (some 12) none = rw p at (ap (λ (r : Option ℕ × Fields). r.0) h) in let y : ◌≡◌ {A = ℕ} 0 1 = cc in omega arith)

  fields_are : f ≡ fields_of m
  unfolding reading first_holding
  fields_are = sym (rw read-accepted at (ap (λ (r : Option ℕ × Fields). r.1) h))

  bytes_are : (g : Field) → field_bytes g m ≡ bytes_of g m
  unfolding field_bytes
  bytes_are g = rw read-accepted

-- a digit field that is digits
number_in_lem : (d : Digits) → is_number d ≡ true → d ≡ Some (number_in d)
number_in_lem None h = absurd (false≢true h)
number_in_lem (Some n) h = refl

module _ (m : List ℕ) (g : Field) {w : ℕ} (l : length (bytes_of g m) ≡ w) (h : is_number (digits_of (bytes_of g m)) ≡ true) where
  field_fits : fits w (number_in (digits_of (bytes_of g m))) ≡ true
  field_fits =
      let p = is_number_lem (bytes_of g m) (number_in (digits_of (bytes_of g m))) (number_in_lem (digits_of (bytes_of g m)) h) in
      lt-ltb (number_in (digits_of (bytes_of g m))) (10 ^ w) (rw p.1 at (number_below w (bytes_of g m) l p.0))

  field_again : digits w (number_in (digits_of (bytes_of g m))) ≡ bytes_of g m
  field_again = number-written w (number_in (digits_of (bytes_of g m))) (bytes_of g m) l (number_in_lem (digits_of (bytes_of g m)) h)

-- a readable message that is well formed, written from its own fields
abbrev holds : List ℕ → Field → Bool
holds m g = is_number (digits_of (bytes_of g m))

abbrev addressed : List ℕ → Field → Bool
addressed m g = is_address (address_of (bytes_of g m))

abbrev formed : List ℕ → Bool
formed m = all_formed (places_of (bytes_of Bids m)).formed

module _ (m : List ℕ) (r : readable layout6_g1 m ≡ true) (h : all_well_formed (fields_of m) (bytes_of Identifier m) ≡ true) where
  each : (addressed m Sender ≡ true) × (addressed m Recipient ≡ true) × (holds m Cro ≡ true) × (holds m Date ≡ true) × (holds m Time ≡ true) × (holds m Check ≡ true) × (formed m ≡ true)
  unfolding all_well_formed fields_of
  each =
      seven (addressed m Sender) (addressed m Recipient) (holds m Cro) (holds m Date) (holds m Time) (holds m Check) (formed m)
      (and_left (addressed m Sender && addressed m Recipient && holds m Cro && holds m Date && holds m Time && holds m Check && formed m) (is_identifier (bytes_of Identifier m)) h)

  identifier : is_identifier (bytes_of Identifier m) ≡ true
  unfolding all_well_formed fields_of
  identifier = and_right (addressed m Sender && addressed m Recipient && holds m Cro && holds m Date && holds m Time && holds m Check && formed m) (is_identifier (bytes_of Identifier m)) h

  numbers_fit_lem : numbers_fit (application_from (fields_of m)) ≡ true
  unfolding numbers_fit fields_of places_of
  numbers_fit_lem =
      rw ((address_written (bytes_of Sender m) each.0).1, (address_written (bytes_of Recipient m) each.1).1, field_fits m Cro (length-field m r Cro) each.2, field_fits m Date (length-field m r Date) each.3, field_fits m Time (length-field m r Time) each.4, field_fits m Check (length-field m r Check) each.5)
      (places_fit_lem 10 (bytes_of Bids m) (length-field m r Bids) each.6)

  texts_fit_lem : texts_fit (bytes_of MessageType m) (bytes_of Identifier m) (bytes_of Name m) ≡ true
  unfolding texts_fit
  texts_fit_lem = rw (eq-eqb (length (bytes_of MessageType m)) 3 (length-field m r MessageType), identifier, eq-eqb (length (bytes_of Name m)) 15 (length-field m r Name))

  written_again : written (application_from (fields_of m)) (bytes_of MessageType m) (bytes_of Identifier m) (bytes_of Name m) ≡ m
  unfolding written layout6_g1 narrow contents_from fields_of places_of
  written_again =
      ap (encoded layout6_g1) (
      λ i.
      bytes_of MessageType m
      ∷ (address_written (bytes_of Sender m) each.0).0 i
      ∷ (address_written (bytes_of Recipient m) each.1).0 i
      ∷ field_again m Cro (length-field m r Cro) each.2 i
      ∷ field_again m Date (length-field m r Date) each.3 i
      ∷ field_again m Time (length-field m r Time) each.4 i
      ∷ field_again m Check (length-field m r Check) each.5 i
      ∷ bytes_of Identifier m
      ∷ places-written 10 (bytes_of Bids m) (length-field m r Bids) each.6 i
      ∷ bytes_of Name m
      ∷ []
      )
      ∙ encoded_back layout6_g1 m refl r

pub readable_writes_back : ReadableWritesBack
unfolding write first_holding
readable_writes_back m space f h w l =
    let r = read-accepted m f h in
    let e : all_well_formed (fields_of m) (bytes_of Identifier m) ≡ true = ap₂ all_well_formed (sym (fields_are m f h)) (sym (bytes_are m f h Identifier)) ∙ w in
    rw (fields_are m f h, bytes_are m f h MessageType, bytes_are m f h Identifier, bytes_are m f h Name, numbers_fit_lem m r e, texts_fit_lem m r e, written_again m r e, le-ltb (length space) (length m) l)
