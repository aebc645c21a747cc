-- What a preview foretells (document 02, S-4). Assumes nothing.
use Rattle.std.specs.Prelude.{◌≡◌, true, false, List, ℕ, min}
use Rattle.std.proofs.Math.Option.{Option, none}
use Rattle.calendar.specs.Calendar.{later}
use Rattle.rules.specs.Allotment.{sum, total_in}
use Rattle.rules.specs.Opening.{Admission, opening_refused, terms_of, offer_of}
use Rattle.rules.specs.Receiving.{Reception}
use Rattle.rules.specs.Calls.{Closed, Tender, in_state, clock_invalid, is_open, closing_refused, close, bids_taken, Allotted, allotment, allot, preview}
use Rattle.rules.specs.ArrivalOrder.{EnoughSpace, NoConflict, Rearranged, after_receptions, final_book}

-- what a preview and an allotment answer beside the next tender: the refusal, and the awards with the marginal rate
abbrev pub answered : Option ℕ × Tender × Allotted → Option ℕ × Allotted
answered x = (x.0, x.2)

-- 'A preview on an open tender gives what closing and allotting a copy of it would give, with the same marginal rate': at every clock reading at
-- which closing is not refused
abbrev pub PreviewForetells : Type 0
PreviewForetells = (t : Tender) (date time : ℕ) → closing_refused t date time ≡ none → answered (preview t) ≡ answered (allot (close t date time).1)

-- 'It needs no clock': the same where no clock reading closes the tender
abbrev pub PreviewOfOpen : Type 0
PreviewOfOpen = (t : Tender) → is_open t.state ≡ true → answered (preview t) ≡ answered (allot (in_state Closed t))

-- as where the cut-off is the last second of the last date
abbrev pub NoClockAfterTheLast : Type 0
NoClockAfterTheLast = (date time : ℕ) → clock_invalid date time ≡ false → later date time 31129999 235959 ≡ false

-- 'On a closed tender it gives what allotting would give'; and on one that is announced or revoked, where both are refused alike
abbrev pub PreviewOfNotOpen : Type 0
PreviewOfNotOpen = (t : Tender) → is_open t.state ≡ false → answered (preview t) ≡ answered (allot t)

-- 'the tender stays open': it is the one that came in, whatever its state
abbrev pub PreviewKeepsTender : Type 0
PreviewKeepsTender = (t : Tender) → (preview t).1 ≡ t

-- 'Rehearsal rooms want to see the awards before the cut-off': after any list of receptions, refused ones included, it is not refused and gives the
-- awards and the marginal rate of the final bids so far
abbrev pub PreviewOfReceptions : Type 0
PreviewOfReceptions =
    (m : List ℕ) (a : Admission)
    → opening_refused m a ≡ none
    → (rs : List Reception)
    → EnoughSpace rs
    → answered (preview (after_receptions m a rs)) ≡ (none, allotment (terms_of m a) (final_book (terms_of m a) rs))

-- the same after every rearrangement of them, under the premises of demand 3; and the awards add up as there
abbrev pub PreviewInAnyOrder : Type 0
PreviewInAnyOrder =
    (m : List ℕ) (a : Admission)
    → opening_refused m a ≡ none
    → (rs rearranged : List Reception)
    → EnoughSpace rs
    → NoConflict (terms_of m a) rs
    → Rearranged rs rearranged
    → (answered (preview (after_receptions m a rearranged)) ≡ answered (preview (after_receptions m a rs)))
    × (sum (preview (after_receptions m a rs)).2.awards ≡ min (terms_of m a).offered (total_in (offer_of (terms_of m a)) (bids_taken (terms_of m a) (final_book (terms_of m a) rs))))
