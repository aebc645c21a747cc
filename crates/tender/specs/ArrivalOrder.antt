-- Demand 3 of what the calls return: the contracts of opening, receiving, closing and allotting, one after the other, and what follows from them. Assumes nothing.
use Rattle.std.specs.Prelude.{◌≡◌, List, [], ◌∷◌, ℕ, min}
use Rattle.std.proofs.Math.Option.{none}
use Rattle.rules.specs.Allotment.{sum, total_in}
use Rattle.rules.specs.Opening.{Admission, terms_of, offer_of}
use Rattle.rules.specs.Receiving.{Reception}
use Rattle.rules.specs.Calls as rules
use Rattle.rules.specs.ArrivalOrder.{EnoughSpace, NoConflict, Rearranged, PastCutOff, final_book}
use Rattle.terms.specs.Viewed.{open_refusal}
use Rattle.refusals.specs.Conditions.{refusal_number}
use Rattle.tender.specs.declared.Tender.{Tender}
use Rattle.tender.specs.declared.Opened.{Opened}
use Rattle.tender.specs.declared.Received.{Received}
use Rattle.tender.specs.declared.Changed.{Changed}
use Rattle.tender.specs.declared.Allotted.{Allotted}
use Rattle.tender.specs.Viewed.{viewed, allotted_in}
use Rattle.tender.specs.Calls.{Opens, Receives, Changes, Allots}

-- 'Each reception takes the tender the last one returned, after a refusal too; nothing else changes it between'
pub data ReceivesAll : Tender → List Reception → Tender → Type 0 where
  no_more : {t : Tender} → ReceivesAll t [] t
  and_next :
      {t last : Tender} {x : Reception} {xs : List Reception} (r : Received) (after : List ℕ)
      → Receives t (rules.receive (viewed t) x) r after
      → ReceivesAll r.tender xs last
      → ReceivesAll t (x ∷ xs) last

-- a tender opened, its receptions, closing and allotting: each what the contract of the call promises of its result
pub record Run (m : List ℕ) (a : Admission) (rs : List Reception) (date time : ℕ) (opened : Opened) (closed : Changed) (allotted : Allotted) : Type 0 where
  pub last : Tender
  pub opens : Opens m a opened
  pub receives : ReceivesAll opened.tender rs last
  pub closes : Changes last (rules.close (viewed last) date time) closed
  pub allots : Allots closed.tender allotted

-- for any two runs of the code over rearranged receptions
abbrev pub ArrivalOrderOfCalls : Type 0
ArrivalOrderOfCalls =
    (m : List ℕ) (a : Admission) (rs rearranged : List Reception) (date time date₂ time₂ : ℕ)
    (opened opened₂ : Opened) (closed closed₂ : Changed) (allotted allotted₂ : Allotted)
    → Run m a rs date time opened closed allotted
    → Run m a rearranged date₂ time₂ opened₂ closed₂ allotted₂
    → open_refusal opened.answer ≡ none
    → EnoughSpace rs
    → NoConflict (terms_of m a) rs
    → Rearranged rs rearranged
    → PastCutOff (terms_of m a) date time
    → PastCutOff (terms_of m a) date₂ time₂
    -- neither closing nor allotting is refused
    → (refusal_number closed.answer ≡ none)
    × (refusal_number allotted.answer ≡ none)
    × (refusal_number closed₂.answer ≡ none)
    × (refusal_number allotted₂.answer ≡ none)
    -- awards and marginal rate are document 01's for the final bids, and the same after the rearrangement
    × (allotted_in allotted ≡ rules.allotment (terms_of m a) (final_book (terms_of m a) rs))
    × (allotted_in allotted₂ ≡ allotted_in allotted)
    -- the awards add up to the smaller of the amount offered and all final bids within the limit rate, as cut to the limits
    × (sum (allotted_in allotted).awards ≡ min (terms_of m a).offered (total_in (offer_of (terms_of m a)) (rules.bids_taken (terms_of m a) (final_book (terms_of m a) rs))))
