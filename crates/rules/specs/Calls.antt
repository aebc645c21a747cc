-- The calls on a tender: what each refuses, answers and leaves (document 01, 'What a call refuses'; document 02). Assumes nothing.
use Rattle.std.specs.Prelude.{Bool, true, false, not, ◌&&◌, List, [], ◌∷◌, ◌++◌, map, ℕ, ◌-◌, ltb, length, drop, replicate}
use Rattle.std.proofs.Math.Option.{Option, none, some}
use Rattle.calendar.specs.Calendar.{valid_date, valid_time, later}
use Rattle.texts.specs.Texts.{ascii}
use Rattle.envelope.specs.Refusals.{first_holding, unless_refused}
use Rattle.envelope.specs.declared.application.Field.TheVariants.{Sender, Cro}
use Rattle.envelope.specs.Application.{bytes_of, unreadable}
use Rattle.rules.specs.Allotment.{Bid, total, awards, marginal_rate}
use Rattle.rules.specs.Cuts.{cut_book}
use Rattle.rules.specs.Opening.{Admission, Terms, opening_refused, terms_of, no_terms, offer_of}
use Rattle.rules.specs.Receiving.{Reception, Error, Entry, submission, new_book, hold, returned_errors}
use Rattle.rules.specs.Replies.{confirmation, returned_message}

-- 'open, closed, announced or revoked'
pub data State : Type 0 where
  Open Closed Announced Revoked : State

-- 'An opened tender takes an event and becomes the next tender'
pub record Tender : Type 0 where
  pub terms : Terms
  pub state : State
  pub book : List Entry

abbrev pub in_state : State → Tender → Tender
in_state s t = record { terms = t.terms; state = s; book = t.book }

-- what a refused opening gives back: no terms, no book, and every later call on it is refused with 8
abbrev pub no_tender : Tender
no_tender = record { terms = no_terms; state = Revoked; book = [] }

unfoldable pub open_tender : List ℕ → Admission → Option ℕ × Tender
open_tender m a = (
  opening_refused m a,
  unless_refused (opening_refused m a) no_tender (record { terms = terms_of m a; state = Open; book = new_book a.codes }),
)

-- '8. The tender is revoked.'
unfoldable pub is_revoked : State → Bool
is_revoked s = elim s [ Open ↦ false | Closed ↦ false | Announced ↦ false | Revoked ↦ true ]

-- '9. It is closed or announced.'
unfoldable pub is_over : State → Bool
is_over s = elim s [ Open ↦ false | Closed ↦ true | Announced ↦ true | Revoked ↦ false ]

-- '10. The clock's date or time is invalid.'
unfoldable pub clock_invalid : ℕ → ℕ → Bool
clock_invalid date time = not (valid_date date && valid_time time)

-- 'Reply space becomes 436 bytes': RE01 of the longest 6G1 with five errors
abbrev pub reply_space : ℕ
reply_space = 436

-- '11. The reply space is under' so many bytes
unfoldable pub space_short : List ℕ → Bool
space_short space = ltb (length space) reply_space

-- '13. The cut-off has not passed.'
unfoldable pub before_cut_off : Terms → ℕ → ℕ → Bool
before_cut_off t date time = not (later date time t.execution t.cut_off)

-- '14. The tender is open.'
unfoldable pub is_open : State → Bool
is_open s = elim s [ Open ↦ true | Closed ↦ false | Announced ↦ false | Revoked ↦ false ]

-- '15. It is announced.'
unfoldable pub is_announced : State → Bool
is_announced s = elim s [ Open ↦ false | Closed ↦ false | Announced ↦ true | Revoked ↦ false ]

-- the bids of the book in book order: 'rising code, then place'
unfoldable pub bids_in_book : List Entry → List Bid
bids_in_book [] = []
bids_in_book (e ∷ es) = e.bids ++ bids_in_book es

-- '16. The bids in the book exceed 999,999,999,999,999,999 eurocents.'
unfoldable pub bids_exceed : Tender → Bool
bids_exceed t = ltb 999999999999999999 (total (bids_in_book t.book))

-- 'receiving 8 to 12'
unfoldable pub receiving_refused : Tender → Reception → Option ℕ
receiving_refused t r =
    first_holding
    ((8, is_revoked t.state)
    ∷ (9, is_over t.state)
    ∷ (10, clock_invalid r.date r.time)
    ∷ (11, space_short r.space)
    ∷ (12, unreadable r.message)
    ∷ [])

-- what a reception is answered, each with the length of its reply
pub data Answer : Type 0 where
  confirmed : ℕ → Answer
  returned : List Error → ℕ → Answer
  refused : ℕ → Answer

-- a reply at the start of the space; 'Bytes past a reply .. stay'
abbrev pub in_space : List ℕ → List ℕ → List ℕ
in_space reply space = reply ++ drop (length reply) space

-- 'An accepted message gets a confirmation; one with errors gets RE01'; 'A confirmation's 050 repeats the sender whole'
unfoldable pub reply : List Error → List ℕ → List ℕ → ℕ → List ℕ
reply [] identifier m time = confirmation (ascii "6G2") (bytes_of Sender m) (bytes_of Cro m) time identifier
reply (e ∷ es) identifier m time = returned_message m (e ∷ es)

-- '.. and changes nothing in the tender'
unfoldable pub book_after : List Error → Terms → List Entry → Reception → List Entry
book_after [] t book r = map (hold (submission t r)) book
book_after (e ∷ es) t book r = book

unfoldable pub answer_to : List Error → ℕ → Answer
answer_to [] n = confirmed n
answer_to (e ∷ es) n = returned (e ∷ es) n

unfoldable pub answer_with : List Error → Tender → Reception → Answer × Tender × List ℕ
answer_with es t r = (
  answer_to es (length (reply es t.terms.identifier r.message r.time)),
  record { terms = t.terms; state = t.state; book = book_after es t.terms t.book r },
  in_space (reply es t.terms.identifier r.message r.time) r.space,
)

unfoldable pub answer_unless : Option ℕ → Tender → Reception → Answer × Tender × List ℕ
answer_unless (some n) t r = (refused n, t, r.space)
answer_unless none t r = answer_with (returned_errors t.terms t.book r) t r

unfoldable pub receive : Tender → Reception → Answer × Tender × List ℕ
receive t r = answer_unless (receiving_refused t r) t r

-- 'closing 8, 9, 10, 13'
unfoldable pub closing_refused : Tender → ℕ → ℕ → Option ℕ
closing_refused t date time =
    first_holding ((8, is_revoked t.state) ∷ (9, is_over t.state) ∷ (10, clock_invalid date time) ∷ (13, before_cut_off t.terms date time) ∷ [])

unfoldable pub close : Tender → ℕ → ℕ → Option ℕ × Tender
close t date time = (closing_refused t date time, unless_refused (closing_refused t date time) t (in_state Closed t))

-- 'allotting 8, 14, 15, 16'
unfoldable pub allotting_refused : Tender → Option ℕ
allotting_refused t = first_holding ((8, is_revoked t.state) ∷ (14, is_open t.state) ∷ (15, is_announced t.state) ∷ (16, bids_exceed t) ∷ [])

-- from the bids of a book, in book order, to what allotting gives: 'Before the shares' they are cut to the limits
unfoldable pub bids_taken : Terms → List Bid → List Bid
bids_taken t bs = cut_book (offer_of t) t.admission.limits bs

-- 'Awards, their total and the marginal rate are from then on those of the cut bids': the awards
unfoldable pub bid_awards : Terms → List Bid → List ℕ
bid_awards t bs = awards (offer_of t) (bids_taken t bs)

-- the awards as they are given
unfoldable pub awards_given : Terms → List Bid → List ℕ
awards_given t bs = bid_awards t bs

-- the marginal rate
unfoldable pub marginal_given : Terms → List Bid → Option ℕ
marginal_given t bs = marginal_rate (offer_of t) (bids_taken t bs)

-- 'the awards, 640 places in book order (places of absent codes zero)'
unfoldable pub in640 : List ℕ → List ℕ
in640 xs = xs ++ replicate (640 - length xs) 0

-- what allotting gives: awards and marginal rate, zeros and none where it is refused
pub record Allotted : Type 0 where
  pub awards : List ℕ
  pub marginal : Option ℕ

abbrev pub not_allotted : Allotted
not_allotted = record { awards = replicate 640 0; marginal = none }

unfoldable pub allotment : Terms → List Bid → Allotted
allotment t bs = record { awards = in640 (awards_given t bs); marginal = marginal_given t bs }

unfoldable pub allot : Tender → Option ℕ × Tender × Allotted
allot t = (
  allotting_refused t,
  unless_refused (allotting_refused t) t (in_state Announced t),
  unless_refused (allotting_refused t) not_allotted (allotment t.terms (bids_in_book t.book)),
)

-- document 02, S-4, a preview: 'Refused: as for allotting, without 14'
unfoldable pub preview_refused : Tender → Option ℕ
preview_refused t = first_holding ((8, is_revoked t.state) ∷ (15, is_announced t.state) ∷ (16, bids_exceed t) ∷ [])

-- '.. and the tender stays open. It needs no clock.'
unfoldable pub preview : Tender → Option ℕ × Tender × Allotted
preview t = (preview_refused t, t, unless_refused (preview_refused t) not_allotted (allotment t.terms (bids_in_book t.book)))

-- 'revoking 8, 15'
unfoldable pub revoking_refused : Tender → Option ℕ
revoking_refused t = first_holding ((8, is_revoked t.state) ∷ (15, is_announced t.state) ∷ [])

unfoldable pub revoke : Tender → Option ℕ × Tender
revoke t = (revoking_refused t, unless_refused (revoking_refused t) t (in_state Revoked t))
