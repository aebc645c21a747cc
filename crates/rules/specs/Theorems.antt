-- What is proved of cancelling, of all tenders that calls give, of awards, marginal rate and rounds, besides demand 3 and the tables. Assumes nothing.
use Rattle.std.specs.Prelude.{◌≡◌, true, false, ℕ, suc, ◌+◌, ◌*◌, ◌-◌, ◌/◌, ◌%◌, ◌≤◌, ◌<◌, min, length, get_or, replicate}
use mathlib.Core.List.{List, ◌++◌, Memᴰ}
use Rattle.std.proofs.Math.Option.{none, some}
use Rattle.rules.specs.Allotment.{Bid, no_bid, filled, Offer, total, total_better, total_equal, binary_length, first_digits, Division, division_at, share, awards, sum, marginal_rate, total_in, walk}
use Rattle.rules.specs.Opening.{Admission, Terms}
use Rattle.rules.specs.Receiving.{Reception, submission, cancels, Entry, ten_zeros, takes, hold}
use Rattle.rules.specs.Calls.{Tender, open_tender, bids_in_book, bids_exceed, bids_taken, bid_awards, awards_given, marginal_given, in640}
use Rattle.rules.specs.Events.{Event, after_events, Kept}

-- 'Ten zero places cancel': a message cancels exactly when its bids are ten zeros
abbrev pub CancelsWithTenZeros : Type 0
CancelsWithTenZeros =
    (t : Terms) (r : Reception)
    → (cancels (submission t r) ≡ true → (submission t r).bids ≡ ten_zeros)
    × ((submission t r).bids ≡ ten_zeros → cancels (submission t r) ≡ true)

-- '.. the bids become zeros and the time is kept': what an entry holds once it takes such a message
abbrev pub CancellingHoldsZeros : Type 0
CancellingHoldsZeros =
    (t : Terms) (r : Reception) (e : Entry)
    → cancels (submission t r) ≡ true
    → takes (submission t r) e ≡ true
    → hold (submission t r) e ≡ record { code = e.code; held = some (submission t r).time; bids = ten_zeros }

-- 'Every tender handed to a call was given by opening or an earlier call, and what holds of all those may be relied on'
abbrev pub EventsKeep : Type 0
EventsKeep = (m : List ℕ) (a : Admission) (es : List Event) → Kept (after_events (open_tender m a).1 es)

-- 64 counterparties, ten bids and fifteen digits: the bids of a book stay under 640,000,000,000,000,000 eurocents
abbrev pub KeptIsBounded : Type 0
KeptIsBounded = (t : Tender) → Kept t → total (bids_in_book t.book) ≤ 639999999999999360

-- condition 16 holds of no tender that opening and events of any kind leave
abbrev pub BidsNeverExceed : Type 0
BidsNeverExceed = (m : List ℕ) (a : Admission) (es : List Event) → bids_exceed (after_events (open_tender m a).1 es) ≡ false

-- the awards add up to the smaller of the amount offered and the bids in
abbrev pub AwardsAddUp : Type 0
AwardsAddUp = (o : Offer) (bs : List Bid) → sum (awards o bs) ≡ min o.offered (total_in o bs)

-- 'places of absent codes zero': the bids in 640 places, those of absent codes empty, give the same bids, awards and marginal rate
abbrev pub places640 : List Bid → List Bid
places640 bs = bs ++ replicate (640 - length bs) no_bid

abbrev pub In640Places : Type 0
In640Places =
    (t : Terms) (bs : List Bid)
    → (bids_taken t (places640 bs) ≡ places640 (bids_taken t bs))
    × (bid_awards t (places640 bs) ≡ in640 (bid_awards t bs))
    × (awards_given t (places640 bs) ≡ in640 (awards_given t bs))
    × (marginal_given t (places640 bs) ≡ marginal_given t bs)

-- no award exceeds its bid, where all bids are above zero
abbrev pub NoAwardAboveBid : Type 0
NoAwardAboveBid =
    (o : Offer) (bs : List Bid)
    → ((b : Bid) → Memᴰ b bs → filled b ≡ true → 0 < b.amount)
    → (k : ℕ)
    → k < length bs
    → get_or (awards o bs) k 0 ≤ (get_or bs k no_bid).amount

-- the walk over rates, best first, with a running total, gives the marginal rate
abbrev pub WalkGivesMarginalRate : Type 0
WalkGivesMarginalRate = (o : Offer) (bs : List Bid) → walk o bs (suc (length bs)) none 0 ≡ marginal_rate o bs

-- 'its share is a times (Q − B), divided by E, rounded down'
abbrev pub ShareRoundedDown : Type 0
ShareRoundedDown = (o : Offer) (bs : List Bid) (r a : ℕ) → share o bs r a ≡ a * (o.offered - total_better o bs r) / total_equal o bs r

-- a round: quotient and remainder doubled, the next binary digit d of a taken in, the count one higher
abbrev pub next_round : ℕ → ℕ → ℕ → Division → Division
next_round d m e x =
    record {
      quotient = 2 * x.quotient + (2 * x.remainder + d * m) / e;
      remainder = (2 * x.remainder + d * m) % e;
      count = x.count + 1;
    }

-- the division at count k + 1 is one round after that at count k, and at count 0 there is nothing
abbrev pub RoundByRound : Type 0
RoundByRound =
    (a m e k : ℕ)
    → k < binary_length a
    → 0 < e
    → division_at a m e (k + 1) ≡ next_round (first_digits a (k + 1) % 2) m e (division_at a m e k)

abbrev pub StartsFromNothing : Type 0
StartsFromNothing = (a m e : ℕ) → division_at a m e 0 ≡ record { quotient = 0; remainder = 0; count = 0 }
