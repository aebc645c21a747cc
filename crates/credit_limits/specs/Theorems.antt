-- What is proved of the cut bids (document 02, S-2). Assumes nothing.
use Rattle.std.specs.Prelude.{◌≡◌, true, false, cond, ℕ, ◌+◌, ◌*◌, ◌≤◌, ◌<◌, min, length, get_or, take, drop, replicate}
use mathlib.Core.List.{List, [], ◌∷◌, Memᴰ}
use Rattle.announcement.specs.declared.Side.TheVariants.{La}
use Rattle.rules.specs.Allotment.{Bid, no_bid, filled, Offer, is_in, total, total_better, total_equal, total_in, awards, sum}
use Rattle.rules.specs.Cuts.{is_capped, cut_bids, cut_book}
use Rattle.rules.specs.Opening.{any}
use Rattle.credit_limits.specs.Walk.{walked_bids}

-- 'walked best first, equal rates by place, and each is cut': the walk step by step gives the bids that are cut with no sorting
abbrev pub WalkGivesCuts : Type 0
WalkGivesCuts = (o : Offer) (cap : ℕ) (bs : List Bid) → is_capped o cap ≡ true → cut_bids o cap bs ≡ walked_bids o cap bs

-- 'so that their running total stays within the cap', and 'no further': before each rate of the walk it is the smaller of the cap and what it was uncut
abbrev pub BetterWithinCap : Type 0
BetterWithinCap =
    (o : Offer) (cap : ℕ) (bs : List Bid) (r : ℕ)
    → is_capped o cap ≡ true
    → total_better o (cut_bids o cap bs) r ≡ min cap (total_better o bs r)

-- 'their running total stays within the cap', and 'no further': so it is at the end of the walk
abbrev pub InWithinCap : Type 0
InWithinCap = (o : Offer) (cap : ℕ) (bs : List Bid) → is_capped o cap ≡ true → total_in o (cut_bids o cap bs) ≡ min cap (total_in o bs)

-- 'cut, only where needed': a book without a capped code stays as it is
abbrev pub NoneCappedStay : Type 0
NoneCappedStay = (o : Offer) (limits : List ℕ) (bs : List Bid) → any (is_capped o) limits ≡ false → cut_book o limits bs ≡ bs

-- 'zero meaning uncapped'
abbrev pub UncappedStay : Type 0
UncappedStay = (o : Offer) (bs : List Bid) → cut_bids o 0 bs ≡ bs

-- limits 'cut nothing in LA'
abbrev pub CollectionsStay : Type 0
CollectionsStay = (o : Offer) (limits : List ℕ) (bs : List Bid) → o.side ≡ La → cut_book o limits bs ≡ bs

-- 'the log program passes zeros': however many they are, nothing is cut
abbrev pub ZerosCutNothing : Type 0
ZerosCutNothing = (o : Offer) (n : ℕ) (bs : List Bid) → cut_book o (replicate n 0) bs ≡ bs

-- 'each is cut': at every place no amount rises and a bid that is left keeps its rate, and there are as many places
abbrev pub OnlyCut : Type 0
OnlyCut =
    (o : Offer) (limits : List ℕ) (bs : List Bid) (k : ℕ)
    → ((get_or (cut_book o limits bs) k no_bid).amount ≤ (get_or bs k no_bid).amount)
    × (0 < (get_or (cut_book o limits bs) k no_bid).amount → (get_or (cut_book o limits bs) k no_bid).rate ≡ (get_or bs k no_bid).rate)
    × (length (cut_book o limits bs) ≡ length bs)

-- 'A bid cut to zero drops out': no rate is left of it either
abbrev pub ZeroDropsOut : Type 0
ZeroDropsOut =
    (o : Offer) (limits : List ℕ) (bs : List Bid) (k : ℕ)
    → 0 < (get_or bs k no_bid).amount
    → (get_or (cut_book o limits bs) k no_bid).amount ≡ 0
    → get_or (cut_book o limits bs) k no_bid ≡ no_bid

-- only 'bids within the limit rate are walked': the others stay as they are
abbrev pub OutStay : Type 0
OutStay =
    (o : Offer) (limits : List ℕ) (bs : List Bid) (k : ℕ)
    → is_in o (get_or bs k no_bid) ≡ false
    → get_or (cut_book o limits bs) k no_bid ≡ get_or bs k no_bid

-- 'only where needed': a bid that fits, after those walked before it, stays as it is
abbrev pub FittingStay : Type 0
FittingStay =
    (o : Offer) (cap : ℕ) (bs : List Bid) (k : ℕ)
    → total_better o bs (get_or bs k no_bid).rate + total_equal o (take k bs) (get_or bs k no_bid).rate + (get_or bs k no_bid).amount ≤ cap
    → get_or (cut_bids o cap bs) k no_bid ≡ get_or bs k no_bid

-- 'and no further': of a counterparty's only bid there is left the smaller of the cap and its amount
abbrev pub OnlyBidCut : Type 0
OnlyBidCut =
    (o : Offer) (cap : ℕ) (b : Bid) (n : ℕ)
    → is_capped o cap ≡ true
    → is_in o b ≡ true
    → cut_bids o cap (b ∷ replicate n no_bid) ≡ record { rate = b.rate; amount = min cap b.amount } ∷ replicate n no_bid

-- 'within the cap', or 'uncapped': what is left of a code's total
unfoldable pub within_cap : Offer → ℕ → ℕ → ℕ
within_cap o cap n = cond (is_capped o cap) (min cap n) n

-- Limits 'one a code': what is left of the bids in, ten places after ten
unfoldable pub total_within_caps : Offer → List ℕ → List Bid → ℕ
total_within_caps o [] bs = total_in o bs
total_within_caps o (cap ∷ limits) bs = within_cap o cap (total_in o (take 10 bs)) + total_within_caps o limits (drop 10 bs)

-- 'cap what it lends to each counterparty': of the whole book there is left what each code's cap leaves
abbrev pub InCodeByCode : Type 0
InCodeByCode = (o : Offer) (limits : List ℕ) (bs : List Bid) → total_in o (cut_book o limits bs) ≡ total_within_caps o limits bs

-- 'each is cut': the cut book holds no more than the book
abbrev pub NoMoreInAll : Type 0
NoMoreInAll = (o : Offer) (limits : List ℕ) (bs : List Bid) → total (cut_book o limits bs) ≤ total bs

-- 'one a code': the ten places of the k-th code, from 0
abbrev pub ten_at : {A : Type 0} → ℕ → List A → List A
ten_at k xs = take 10 (drop (10 * k) xs)

-- 'the Ministry may cap what it lends to each counterparty': the awards of the k-th code come to at most its cap, in a book with ten places a code and
-- bids above zero
abbrev pub LentWithinCap : Type 0
LentWithinCap =
    (o : Offer) (limits : List ℕ) (bs : List Bid)
    → 10 * length limits ≤ length bs
    → ((b : Bid) → Memᴰ b bs → filled b ≡ true → 0 < b.amount)
    → (k : ℕ)
    → is_capped o (get_or limits k 0) ≡ true
    → sum (ten_at k (awards o (cut_book o limits bs))) ≤ get_or limits k 0
