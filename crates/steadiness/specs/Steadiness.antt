-- How far one bid can push another (document 02, S-5). Assumes nothing.
use Rattle.std.specs.Prelude.{◌≡◌, List, [], ◌∷◌, ℕ, ◌+◌, ◌≤◌, ◌<◌, get_or, set}
use Rattle.announcement.specs.declared.Side.TheVariants.{Lp}
use Rattle.rules.specs.Allotment.{Bid, no_bid, Offer, awards}

-- 'd eurocents higher': the bid keeps its rate
abbrev pub raised : ℕ → Bid → Bid
raised d b = record { rate = b.rate; amount = b.amount + d }

-- 'equal but for one bid's amount': the list with d eurocents more for the bid at a place, counted from 0
abbrev pub raised_at : ℕ → ℕ → List Bid → List Bid
raised_at place d bs = set bs place (raised d (get_or bs place no_bid))

-- 'differs by at most' so much
abbrev pub DifferByAtMost : ℕ → ℕ → ℕ → Type 0
DifferByAtMost most x y = (x ≤ y + most) × (y ≤ x + most)

-- the request, with its bound as a function of d
abbrev pub SteadyWithin : (ℕ → ℕ) → Type 0
SteadyWithin bound =
    -- 'Compare two lists of bids, as they stand after credit cuts': of any length. 'It covers LA and LP, and bids at the marginal rate, above it and
    -- below it': nothing is asked of the offer, nor of where the bids stand
    (o : Offer) (bs : List Bid)
    -- 'equal but for one bid's amount: above zero in both and d eurocents higher in the second'
    → (place d : ℕ)
    → 0 < (get_or bs place no_bid).amount
    -- 'Every other bid's award'
    → (k : ℕ)
    → (k ≡ place → ⊥)
    -- 'then differs by at most' the bound 'between the two': the award before any later step
    → DifferByAtMost (bound d) (get_or (awards o bs) k 0) (get_or (awards o (raised_at place d bs)) k 0)

-- 'by at most d + 1 eurocents'
abbrev pub Steady : Type 0
Steady = SteadyWithin (λ d. d + 1)

-- it differs by at most d, even
abbrev pub SteadyByD : Type 0
SteadyByD = SteadyWithin (λ d. d)

-- and by d it can, whatever d is: of 1 + d eurocents offered, a bid of 1 at the better rate leaves d to the other bid, and nothing once it has d more
abbrev pub offer_reaching : ℕ → Offer
offer_reaching d = record { side = Lp; limit = 0; offered = 1 + d }

abbrev pub bids_reaching : ℕ → List Bid
bids_reaching d = record { rate = 2; amount = 1 } ∷ record { rate = 1; amount = d } ∷ []

abbrev pub ReachesD : Type 0
ReachesD =
    (d : ℕ)
    → (awards (offer_reaching d) (bids_reaching d) ≡ 1 ∷ d ∷ [])
    × (awards (offer_reaching d) (raised_at 0 d (bids_reaching d)) ≡ (1 + d) ∷ 0 ∷ [])
