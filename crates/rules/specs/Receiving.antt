-- The errors of a message and what the book holds (document 01, 'Opening and receiving'). Assumes nothing.
use Rattle.std.specs.Prelude.{Bool, true, false, cond, not, ◌&&◌, List, [], ◌∷◌, ◌++◌, map, ℕ, ◌-◌, ◌%◌, eqb, leb, ltb, length, replicate, take}
use Rattle.std.proofs.Math.Option.{Option, none, some}
use Rattle.calendar.specs.Calendar.{valid_date, valid_time, later}
use Rattle.digits.specs.Decimal.{Digits}
use Rattle.digits.specs.Decimal.{is_number, number_in}
use Rattle.layout.specs.Fields.{readable}
use Rattle.addresses.specs.declared.Address.{Address}
use Rattle.addresses.specs.Addresses.{is_address, code_in}
use Rattle.places.specs.declared.Place.{Place}
use Rattle.places.specs.Bids.{places_in}
use Rattle.texts.specs.Texts.{same_text, ascii}
use Rattle.envelope.specs.declared.application.Field.TheVariants.{MessageType, Recipient, Identifier, Bids}
use Rattle.envelope.specs.Application.{layout6_g1, bytes_of, fields_of}
use Rattle.rules.specs.Allotment.{Bid, no_bid, filled, keep, total}
use Rattle.rules.specs.Opening.{Terms, is_date, is_time, any}

-- 'A reception is a message, a reception date and time .., and reply space.'
pub record Reception : Type 0 where
  pub message : List ℕ
  pub date : ℕ
  pub time : ℕ
  pub space : List ℕ

-- the rates and amounts of the ten places in the 240 bytes of field 6G6, and those of a message
abbrev pub bid_of : Place → Bid
bid_of p = record { rate = p.rate.0; amount = p.amount.0 }

unfoldable pub bids_in : List ℕ → List Bid
bids_in s = map bid_of (places_in 10 s)

abbrev pub message_bids : List ℕ → List Bid
message_bids m = bids_in (bytes_of Bids m)

-- an error: its IDC and its code
abbrev pub Error : Type 0
Error = List ℕ × ℕ

-- an error where a condition holds, else none
unfoldable pub when : Bool → Error → List Error
when b e = cond b (e ∷ []) []

-- '040-309 sender not digits, else 040-300 not admitted'; '309 also covers a misplaced slash or a non-digit in the second five', and
-- 'Admission looks at a sender's first five digits'
unfoldable pub sender_errors : List ℕ → Address → List Error
sender_errors codes a = cond (is_address a) (when (not (any (eqb (code_in a)) codes)) (ascii "040", 300)) ((ascii "040", 309) ∷ [])

-- 'D31-502 not a date, else D31-522 not the execution date'
unfoldable pub date_errors : ℕ → Digits → List Error
date_errors execution d = cond (is_date d) (when (not (eqb (number_in d) execution)) (ascii "D31", 522)) ((ascii "D31", 502) ∷ [])

-- '902 a filled place after a zero one'
unfoldable pub gap : List Bid → Bool
gap [] = false
gap (b ∷ bs) = cond (filled b) (gap bs) (any filled bs)

-- '904 a rate with any of its last three digits not zero'
unfoldable pub fine_rate : Bid → Bool
fine_rate b = not (eqb (b.rate % 1000) 0)

-- '905 a filled place's amount below the minimum'
unfoldable pub small_bid : ℕ → Bid → Bool
small_bid minimum b = filled b && ltb b.amount minimum

-- '906 an amount at or above the minimum that is not minimum plus a multiple of the increment'
unfoldable pub uneven_bid : ℕ → ℕ → Bid → Bool
uneven_bid minimum increment b = leb minimum b.amount && not (eqb ((b.amount - minimum) % increment) 0)

-- '907 total above a told maximum'
unfoldable pub over_maximum : ℕ → List Bid → Bool
over_maximum maximum bs = not (eqb maximum 0) && ltb maximum (total bs)

-- '6G6-901 a place malformed; if none is: 902 .., 903 more filled places than allowed, 904 .., 905 .., 906 .., 907 ..': of ten well-formed places
unfoldable pub bid_errors : Terms → List Bid → List Error
bid_errors t bs =
    when (gap bs) (ascii "6G6", 902)
    ++ when (ltb t.most (length (keep filled bs))) (ascii "6G6", 903)
    ++ when (any fine_rate bs) (ascii "6G6", 904)
    ++ when (any (small_bid t.minimum) bs) (ascii "6G6", 905)
    ++ when (any (uneven_bid t.minimum t.increment) bs) (ascii "6G6", 906)
    ++ when (over_maximum t.maximum bs) (ascii "6G6", 907)

-- and of the 240 bytes of field 6G6
unfoldable pub place_errors : Terms → List ℕ → List Error
place_errors t s = cond (any (λ (p : Place). not p.formed) (places_in 10 s)) ((ascii "6G6", 901) ∷ []) (bid_errors t (bids_in s))

-- 'The message's errors are collected in this order, each once, as IDC and code'; 'A long recipient is right when its first five are `01000`.'
unfoldable pub errors : Terms → Reception → List Error
errors t r =
    when (not (same_text (bytes_of MessageType r.message) (ascii "6G1"))) (ascii "001", 900)
    ++ sender_errors t.admission.codes (fields_of r.message).sender
    ++ when (not (same_text (take 5 (bytes_of Recipient r.message)) (ascii "01000"))) (ascii "050", 599)
    ++ when (not (is_number (fields_of r.message).cro)) (ascii "020", 521)
    ++ date_errors t.execution (fields_of r.message).date
    ++ when (not (is_time (fields_of r.message).time)) (ascii "601", 503)
    ++ when (not (is_number (fields_of r.message).check)) (ascii "010", 908)
    ++ when (not (same_text (bytes_of Identifier r.message) t.identifier)) (ascii "6G0", 303)
    ++ place_errors t (bytes_of Bids r.message)
    ++ when (later r.date r.time t.execution t.cut_off) (ascii "6G5", 301)

-- 'A readable message with none of these errors, received with a valid date and time, is sound.'
unfoldable pub is_empty : {A : Type 0} → List A → Bool
is_empty [] = true
is_empty (x ∷ xs) = false

unfoldable pub is_sound : Terms → Reception → Bool
is_sound t r = readable layout6_g1 r.message && (valid_date r.date && valid_time r.time) && is_empty (errors t r)

-- what announcement and admitted list tell of a reception: whether its message is sound, its sender's code, which all branches of a
-- counterparty share, reference time and ten bids
pub record Submission : Type 0 where
  pub sound : Bool
  pub code : ℕ
  pub time : ℕ
  pub bids : List Bid

unfoldable pub submission : Terms → Reception → Submission
submission t r =
    record {
      sound = is_sound t r;
      code = code_in (fields_of r.message).sender;
      time = number_in (fields_of r.message).time;
      bids = message_bids r.message;
    }

-- 'Ten zero places cancel': no place of the message is filled
unfoldable pub cancels : Submission → Bool
cancels s = not (any filled s.bids)

-- 'For each admitted code the book holds the reference time last accepted, or none, and ten bids.'
pub record Entry : Type 0 where
  pub code : ℕ
  pub held : Option ℕ
  pub bids : List Bid

abbrev pub ten_zeros : List Bid
ten_zeros = replicate 10 no_bid

-- the book of a newly opened tender
unfoldable pub new_entry : ℕ → Entry
new_entry c = record { code = c; held = none; bids = ten_zeros }

unfoldable pub new_book : List ℕ → List Entry
new_book codes = map new_entry codes

-- 'A sound message whose reference time is at or before the held time gets 601-302'
unfoldable pub is_after : ℕ → Option ℕ → Bool
is_after time none = true
is_after time (some h) = ltb h time

-- a sound message of a counterparty
unfoldable pub is_from : ℕ → Submission → Bool
is_from c s = s.sound && eqb s.code c

-- the message is one that the entry takes
unfoldable pub takes : Submission → Entry → Bool
takes s e = is_from e.code s && is_after s.time e.held

-- 'otherwise its time and bids replace what is held'; of a message that cancels 'the bids become zeros and the time is kept': theorem
-- `cancelling-holds-zeros`
unfoldable pub hold : Submission → Entry → Entry
hold s e = cond (takes s e) (record { code = e.code; held = some s.time; bids = s.bids }) e

-- the errors with which a message is returned: those of the message, or that it comes too late for what is held
unfoldable pub returned_errors : Terms → List Entry → Reception → List Error
returned_errors t book r =
    cond (is_empty (errors t r)) (when (not (any (takes (submission t r)) book)) (ascii "601", 302)) (errors t r)
