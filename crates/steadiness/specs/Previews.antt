-- How far one bid can push another in what a preview shows (document 02, S-4 and S-5). Assumes nothing.
use Rattle.std.specs.Prelude.{◌≡◌, List, ℕ, ◌+◌, ◌<◌, get_or}
use Rattle.std.proofs.Math.Option.{none}
use Rattle.rules.specs.Allotment.{Bid, no_bid}
use Rattle.rules.specs.Opening.{offer_of}
use Rattle.rules.specs.Calls.{Tender, bids_in_book, bids_taken, preview}
use Rattle.steadiness.specs.Steadiness.{raised_at, DifferByAtMost}

-- 'lists of bids, as they stand after credit cuts': that of a tender's book
abbrev pub bids_after_cuts : Tender → List Bid
bids_after_cuts t = bids_taken t.terms (bids_in_book t.book)

-- two tenders with such lists: 'equal but for one bid's amount: above zero in both and d eurocents higher in the second'
pub record OneRaised (first second : Tender) (place d : ℕ) : Type 0 where
  -- they offer the same amount, with the same limit rate, on the same side
  pub same_offer : offer_of second.terms ≡ offer_of first.terms
  pub above_zero : 0 < (get_or (bids_after_cuts first) place no_bid).amount
  pub higher : bids_after_cuts second ≡ raised_at place d (bids_after_cuts first)

-- 'Dealers who use the preview want a figure for its steadiness': where neither preview is refused, every other award differs by at most the bound
-- between the two; a bid's place in the list is that of its award
abbrev pub SteadyPreviewsWithin : (ℕ → ℕ) → Type 0
SteadyPreviewsWithin bound =
    (first second : Tender) (place d : ℕ)
    → OneRaised first second place d
    → (preview first).0 ≡ none
    → (preview second).0 ≡ none
    → (k : ℕ)
    → (k ≡ place → ⊥)
    → DifferByAtMost (bound d) (get_or (preview first).2.awards k 0) (get_or (preview second).2.awards k 0)

-- 'by at most d + 1 eurocents'
abbrev pub SteadyPreviews : Type 0
SteadyPreviews = SteadyPreviewsWithin (λ d. d + 1)

-- by at most d, even
abbrev pub SteadyPreviewsByD : Type 0
SteadyPreviewsByD = SteadyPreviewsWithin (λ d. d)
