-- The terms of a tender and the refusals of opening (document 01, 'What a call refuses' 1 to 7; document 02, S-2). Assumes nothing.
use Rattle.std.specs.Prelude.{Bool, true, false, not, ◌&&◌, ◌||◌, List, [], ◌∷◌, ℕ, eqb, ltb, length, replicate, Some, None, is_some}
use Rattle.std.specs.Prelude as told
use Rattle.std.proofs.Math.Option.{Option}
use Rattle.calendar.specs.Calendar.{valid_date, valid_time}
use Rattle.digits.specs.Decimal.{Digits, is_number, number_in}
use Rattle.layout.specs.Fields.{readable}
use Rattle.texts.specs.Texts.{same_text, ascii}
use Rattle.envelope.specs.Refusals.{first_holding}
use Rattle.announcement.specs.declared.Field.TheVariants.{MessageType, Sender, Identifier}
use Rattle.announcement.specs.declared.Side.{Side}
use Rattle.announcement.specs.declared.Side.TheVariants.{La}
use Rattle.announcement.specs.declared.Kind.{Kind}
use Rattle.announcement.specs.declared.Characteristics.{Characteristics}
use Rattle.announcement.specs.declared.Announcement.{Announcement}
use Rattle.announcement.specs.Announcement.{layout6_g0, bytes_of, characteristics_in, announcement_of, dates_ordered}
use Rattle.rules.specs.Allotment.{Offer}

-- 'the admitted list': the codes of those who may bid; 'Limits come with the admitted list, one a code'
pub record Admission : Type 0 where
  pub codes : List ℕ
  pub limits : List ℕ

-- the admitted list of these codes and limits
abbrev pub admitting : List ℕ → List ℕ → Admission
admitting codes limits = record { codes = codes; limits = limits }

-- 'zero meaning uncapped': these codes, and a zero for each
abbrev pub uncapped : List ℕ → Admission
uncapped codes = admitting codes (replicate (length codes) 0)

-- nobody admitted
abbrev pub nobody : Admission
nobody = admitting [] []

-- what a tender keeps of its announcement, and who is admitted to it
pub record Terms : Type 0 where
  pub identifier : List ℕ
  pub side : Side
  pub execution : ℕ
  pub cut_off : ℕ
  pub most : ℕ
  pub offered : ℕ
  pub minimum : ℕ
  pub increment : ℕ
  pub maximum : ℕ
  pub allocation : ℕ
  pub limit : ℕ
  pub admission : Admission

-- a field that is a date, a time
abbrev pub is_date : Digits → Bool
is_date None = false
is_date (Some n) = valid_date n

abbrev pub is_time : Digits → Bool
is_time None = false
is_time (Some n) = valid_time n

-- a test of some element
unfoldable pub any : {A : Type 0} → (A → Bool) → List A → Bool
any p [] = false
any p (x ∷ xs) = p x || any p xs

-- '1. The announcement's fields, order or lengths are wrong.'
unfoldable pub not_announcement : List ℕ → Bool
not_announcement m = not (readable layout6_g0 m)

-- '2. Its type is not `6G0` or its sender not `01000`.'
unfoldable pub other_origin : List ℕ → Bool
other_origin m = not (same_text (bytes_of MessageType m) (ascii "6G0") && same_text (bytes_of Sender m) (ascii "01000"))

-- '3. A digit field, date, time, slash or identifier in it, the type field apart, is malformed.'
unfoldable pub well_formed : Announcement → Bool
well_formed a =
    is_number a.references.recipient
    && is_number a.references.cro
    && is_date a.references.date
    && is_time a.references.time
    && a.identified
    && is_some a.characteristics
    && valid_date (characteristics_in a.characteristics).execution
    && is_date a.spot
    && is_date a.forward
    && is_time a.cutoff

unfoldable pub malformed_announcement : List ℕ → Bool
malformed_announcement m = not (well_formed (announcement_of m))

-- '4. Its field 6G1 is none of the types above.'
abbrev pub is_unknown : told.Option Kind → Bool
is_unknown k = not (is_some k)

unfoldable pub unknown_type : List ℕ → Bool
unknown_type m = is_unknown (announcement_of m).kind

-- '5. Most bids is not 1 to 10, or amount offered, minimum or increment is zero, or a told maximum is below the minimum.'
unfoldable pub impossible : Characteristics → Bool
impossible c =
    eqb c.most 0
    || ltb 10 c.most
    || eqb c.offered.0 0
    || eqb c.minimum.0 0
    || eqb c.increment.0 0
    || (not (eqb c.maximum.0 0) && ltb c.maximum.0 c.minimum.0)

-- the numbers of the characteristics of a message
abbrev pub characteristics_told : List ℕ → Characteristics
characteristics_told m = characteristics_in (announcement_of m).characteristics

unfoldable pub impossible_numbers : List ℕ → Bool
impossible_numbers m = impossible (characteristics_told m)

-- '6. The reference date is after the execution date, the spot date before it, or the forward date not after the spot date.'
unfoldable pub dates_disordered : List ℕ → Bool
dates_disordered m =
    not (dates_ordered (number_in (announcement_of m).references.date) (characteristics_told m).execution (number_in (announcement_of m).spot) (number_in (announcement_of m).forward))

-- '7. The admitted list is empty, over 64, not strictly rising, or has a code over 99999.'
unfoldable pub rising : List ℕ → Bool
rising [] = true
rising (c ∷ []) = true
rising (c ∷ d ∷ codes) = ltb c d && rising (d ∷ codes)

unfoldable pub bad_codes : List ℕ → Bool
bad_codes codes = eqb (length codes) 0 || ltb 64 (length codes) || not (rising codes) || any (ltb 99999) codes

-- 'Refused: 19 when the limits are not as many as the codes'
unfoldable pub limits_miscounted : Admission → Bool
limits_miscounted a = not (eqb (length a.limits) (length a.codes))

-- '20 when one has over fifteen digits'
unfoldable pub limit_too_long : List ℕ → Bool
limit_too_long limits = any (ltb 999999999999999) limits

-- 'Opening checks 1 to 7', and 19 and 20, 'both after 7'
unfoldable pub opening_refused : List ℕ → Admission → Option ℕ
opening_refused m a =
    first_holding
    ((1, not_announcement m)
    ∷ (2, other_origin m)
    ∷ (3, malformed_announcement m)
    ∷ (4, unknown_type m)
    ∷ (5, impossible_numbers m)
    ∷ (6, dates_disordered m)
    ∷ (7, bad_codes a.codes)
    ∷ (19, limits_miscounted a)
    ∷ (20, limit_too_long a.limits)
    ∷ [])

-- the side of a type; an unknown type opens no tender
abbrev pub side_of : told.Option Kind → Side
side_of None = La
side_of (Some k) = k.side

unfoldable pub terms_of : List ℕ → Admission → Terms
terms_of m a =
    record {
      identifier = bytes_of Identifier m;
      side = side_of (announcement_of m).kind;
      execution = (characteristics_told m).execution;
      cut_off = number_in (announcement_of m).cutoff;
      most = (characteristics_told m).most;
      offered = (characteristics_told m).offered.0;
      minimum = (characteristics_told m).minimum.0;
      increment = (characteristics_told m).increment.0;
      maximum = (characteristics_told m).maximum.0;
      allocation = (characteristics_told m).allocation.0;
      limit = (characteristics_told m).limit.0;
      admission = a;
    }

-- the terms of the tender that a refused opening gives back: zeros, and nobody admitted
abbrev pub no_terms : Terms
no_terms =
    record {
      identifier = replicate 11 0;
      side = La;
      execution = 0;
      cut_off = 0;
      most = 0;
      offered = 0;
      minimum = 0;
      increment = 0;
      maximum = 0;
      allocation = 0;
      limit = 0;
      admission = nobody;
    }

abbrev pub offer_of : Terms → Offer
offer_of t = record { side = t.side; limit = t.limit; offered = t.offered }
