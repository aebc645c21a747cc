-- Rates and amounts in columns, place by place, as document 01's bids. Assumes nothing.
use Rattle.std.specs.Prelude.{◌≡◌, Bool, List, [], ◌∷◌, ℕ, zero, suc, get_or}
use Rattle.places.specs.declared.Rate.{Rate}
use Rattle.places.specs.declared.Amount.{Amount}
use Rattle.rules.specs.Allotment as rules
use Rattle.rules.specs.Opening.{any}
use Rattle.bids.specs.declared.Bid as declared
use Rattle.bids.specs.declared.side_by_side.BidColumns.{BidColumns}

abbrev pub no_rate : Rate
no_rate = record { 0 = 0 }

abbrev pub no_amount : Amount
no_amount = record { 0 = 0 }

abbrev pub viewed : declared.Bid → rules.Bid
viewed b = record { rate = b.rate.0; amount = b.amount.0 }

abbrev pub cents : Amount → ℕ
cents a = a.0

-- the bid at an index
abbrev pub bid_at : List Rate → List Amount → ℕ → rules.Bid
bid_at rates amounts i = record { rate = (get_or rates i no_rate).0; amount = (get_or amounts i no_amount).0 }

-- d bids from index i on
unfoldable pub bids_from : List Rate → List Amount → ℕ → ℕ → List rules.Bid
bids_from rates amounts i zero = []
bids_from rates amounts i (suc d) = bid_at rates amounts i ∷ bids_from rates amounts (suc i) d

-- rates and amounts side by side, as bids
unfoldable pub bids_of : List ℕ → List ℕ → List rules.Bid
bids_of [] amounts = []
bids_of (r ∷ rates) [] = []
bids_of (r ∷ rates) (a ∷ amounts) = record { rate = r; amount = a } ∷ bids_of rates amounts

-- the bids that columns stand for
abbrev pub bids_in : BidColumns → List rules.Bid
bids_in c = bids_of c.rates.now c.amounts.now

-- found: whether some of the bids has a fault, where what a test may answer of a bid is whether it has the fault
abbrev pub Asked : (declared.Bid → Bool → Type 0) → List rules.Bid → Bool → Type 0
Asked Answers bs found = (has_fault : rules.Bid → Bool) → ((b : declared.Bid) (told : Bool) → Answers b told → told ≡ has_fault (viewed b)) → found ≡ any has_fault bs
