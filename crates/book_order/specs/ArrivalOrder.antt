-- Demand 3 of the calls from C: the contracts of opening, receiving, closing and allotting, one after the other on the same words, and what follows from
-- them. Assumes nothing.
use Rattle.std.specs.Prelude.{◌≡◌, List, [], ◌∷◌, ℕ, min}
use Rattle.rules.specs.Allotment.{sum, total_in}
use Rattle.rules.specs.Opening.{Admission, terms_of, offer_of}
use Rattle.rules.specs.Receiving.{Reception}
use Rattle.rules.specs.Calls as rules
use Rattle.rules.specs.ArrivalOrder.{EnoughSpace, NoConflict, Rearranged, PastCutOff, final_book}
use Rattle.numbers.specs.Numbers.{in_array}
use Rattle.buffer.specs.Words.{tender_in}
use Rattle.optes_book.specs.Interface.{Opens, Receives, Changes, Allots, marginal_numbers}

-- 'Each reception takes the tender the last one returned, after a refusal too; nothing else changes it between'
pub data ReceivesAll : List ℕ → List Reception → List ℕ → Type 0 where
  no_more : {ws : List ℕ} → ReceivesAll ws [] ws
  and_next :
      {ws after last : List ℕ} {x : Reception} {xs : List Reception} (r : ℕ) (told space₂ told₂ : List ℕ)
      → Receives ws x.message x.date x.time x.space told r after space₂ told₂
      → ReceivesAll after xs last
      → ReceivesAll ws (x ∷ xs) last

-- a tender opened in words that held anything, its receptions, closing and allotting: each what the contract of the call promises
pub record Run (m : List ℕ) (a : Admission) (rs : List Reception) (date time : ℕ) (opened closed allotted : ℕ) (awards told awards₂ told₂ : List ℕ) : Type 0 where
  pub ws : List ℕ
  pub first : List ℕ
  pub last : List ℕ
  pub after : List ℕ
  pub announced : List ℕ
  pub opens : Opens ws m a opened first
  pub receives : ReceivesAll first rs last
  pub closes : Changes last (rules.close (tender_in last) date time) 1 closed after
  pub allots : Allots after awards told allotted announced awards₂ told₂

-- what allotting tells of the final bids, in arrays of any length
abbrev pub final_allotment : List ℕ → Admission → List Reception → rules.Allotted
final_allotment m a rs = rules.allotment (terms_of m a) (final_book (terms_of m a) rs)

-- for every announcement, admitted list and limits, and any two runs of the calls over rearranged receptions
abbrev pub ArrivalOrderFromC : Type 0
ArrivalOrderFromC =
    (m : List ℕ) (a : Admission) (rs rearranged : List Reception) (date time date₂ time₂ : ℕ)
    (opened opened₂ closed closed₂ allotted allotted₂ : ℕ) (awards told given shown awards₂ told₂ given₂ shown₂ : List ℕ)
    → Run m a rs date time opened closed allotted awards told given shown
    → Run m a rearranged date₂ time₂ opened₂ closed₂ allotted₂ awards₂ told₂ given₂ shown₂
    → opened ≡ 0
    → opened₂ ≡ 0
    → EnoughSpace rs
    → NoConflict (terms_of m a) rs
    → Rearranged rs rearranged
    → PastCutOff (terms_of m a) date time
    → PastCutOff (terms_of m a) date₂ time₂
    -- neither closing nor allotting is refused
    → (closed ≡ 0) × (allotted ≡ 0) × (closed₂ ≡ 0) × (allotted₂ ≡ 0)
    -- the awards and the marginal rate that are told are document 01's for the final bids, and the same after the rearrangement
    × (given ≡ in_array (final_allotment m a rs).awards awards)
    × (shown ≡ in_array (marginal_numbers (final_allotment m a rs).marginal) told)
    × (given₂ ≡ in_array (final_allotment m a rs).awards awards₂)
    × (shown₂ ≡ in_array (marginal_numbers (final_allotment m a rs).marginal) told₂)
    -- 'The awards add up to the smaller of the amount offered and all final bids within the limit rate', as cut to the limits
    × (sum (final_allotment m a rs).awards ≡ min (terms_of m a).offered (total_in (offer_of (terms_of m a)) (rules.bids_taken (terms_of m a) (final_book (terms_of m a) rs))))
