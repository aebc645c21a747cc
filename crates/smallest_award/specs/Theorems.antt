-- What is proved of the smallest award (document 02, S-6). Assumes nothing.
use Rattle.std.specs.Prelude.{◌≡◌, List, ℕ, ◌+◌, ◌≤◌, ◌<◌, min, length, get_or, replicate}
use Rattle.rules.specs.Allotment.{Bid, Offer, awards, sum, total_in}
use Rattle.smallest_award.specs.SmallestAward.{given_awards, dropped_cents}
use Rattle.rules.specs.Opening.{Terms}
use Rattle.rules.specs.Calls.{bid_awards, marginal_given}

-- 'An award above zero but below that amount .. becomes zero. Its cents are not handed to others': at every place the award before the step decides
-- alone, and one that is not below the minimum stays
abbrev pub EachByItself : Type 0
EachByItself =
    (m : ℕ) (xs : List ℕ) (k : ℕ)
    → (get_or xs k 0 < m → get_or (given_awards m xs) k 0 ≡ 0) × (m ≤ get_or xs k 0 → get_or (given_awards m xs) k 0 ≡ get_or xs k 0)

-- what is given and what is dropped make the awards before the step together
abbrev pub GivenAndDropped : Type 0
GivenAndDropped = (m : ℕ) (xs : List ℕ) → sum (given_awards m xs) + dropped_cents m xs ≡ sum xs

-- without a minimum allocation, and with one of a cent, nothing is dropped
abbrev pub DropsNothing : Type 0
DropsNothing = (m : ℕ) (xs : List ℕ) → m ≤ 1 → (given_awards m xs ≡ xs) × (dropped_cents m xs ≡ 0)

-- with one above the amount offered everything is
abbrev pub DropsAll : Type 0
DropsAll =
    (o : Offer) (bs : List Bid) (m : ℕ)
    → o.offered < m
    → (given_awards m (awards o bs) ≡ replicate (length bs) 0) × (dropped_cents m (awards o bs) ≡ min o.offered (total_in o bs))

-- terms with another minimum allocation
abbrev pub with_allocation : ℕ → Terms → Terms
with_allocation m t =
    record {
      identifier = t.identifier;
      side = t.side;
      execution = t.execution;
      cut_off = t.cut_off;
      most = t.most;
      offered = t.offered;
      minimum = t.minimum;
      increment = t.increment;
      maximum = t.maximum;
      allocation = m;
      limit = t.limit;
      admission = t.admission;
    }

-- 'The marginal rate is as before', and so are the awards before the step: the minimum allocation moves neither
abbrev pub AsBefore : Type 0
AsBefore =
    (t : Terms) (m : ℕ) (bs : List Bid)
    → (marginal_given (with_allocation m t) bs ≡ marginal_given t bs) × (bid_awards (with_allocation m t) bs ≡ bid_awards t bs)
