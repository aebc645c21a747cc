-- Credit limits on investments (document 02, S-2): the bids that the allotment takes, cut to each counterparty's cap, with no sorting. What a cap
-- leaves to a bid is told by the bids walked before it. Assumes nothing.
use Rattle.std.specs.Prelude.{Bool, true, false, cond, not, ◌&&◌, List, [], ◌∷◌, ◌++◌, ℕ, zero, suc, ◌+◌, ◌-◌, ltb, eqb, take, drop}
use Rattle.announcement.specs.declared.Side.{Side}
use Rattle.announcement.specs.declared.Side.TheVariants.{La, Lp}
use Rattle.rules.specs.Allotment.{Bid, no_bid, Offer, is_in, total_better, total_equal}

-- 'In LP tenders'; limits 'cut nothing in LA'
unfoldable pub invests : Side → Bool
invests La = false
invests Lp = true

-- 'zero meaning uncapped'
unfoldable pub is_capped : Offer → ℕ → Bool
is_capped o cap = invests o.side && not (eqb cap 0)

-- 'A bid cut to zero drops out': it is no bid any more
unfoldable pub cut_to : ℕ → Bid → Bid
cut_to zero b = no_bid
cut_to (suc n) b = record { rate = b.rate; amount = suc n }

-- 'each is cut, only where needed and no further': where it is above what is left, to what is left
unfoldable pub cut_above : ℕ → Bid → Bid
cut_above left b = cond (ltb left b.amount) (cut_to left b) b

-- 'best first, equal rates by place': what the cap leaves to a bid after those walked before it; the counterparty's bids are bs, and those at places
-- before this one `before`
unfoldable pub left_of_cap : Offer → ℕ → List Bid → List Bid → Bid → ℕ
left_of_cap o cap bs before b = cap - (total_better o bs b.rate + total_equal o before b.rate)

-- only 'bids within the limit rate are walked'
unfoldable pub cut_bid : Offer → ℕ → List Bid → List Bid → Bid → Bid
cut_bid o cap bs before b = cond (is_in o b) (cut_above (left_of_cap o cap bs before b) b) b

unfoldable pub cut_from : Offer → ℕ → List Bid → List Bid → List Bid → List Bid
cut_from o cap bs before [] = []
cut_from o cap bs before (b ∷ rest) = cut_bid o cap bs before b ∷ cut_from o cap bs (before ++ (b ∷ [])) rest

-- 'so that their running total stays within the cap': the bids of one counterparty, place by place
unfoldable pub cut_bids : Offer → ℕ → List Bid → List Bid
cut_bids o cap bs = cond (is_capped o cap) (cut_from o cap bs [] bs) bs

-- 'one a code': each limit cuts ten places of the bids in book order
unfoldable pub cut_book : Offer → List ℕ → List Bid → List Bid
cut_book o [] bs = bs
cut_book o (cap ∷ limits) bs = cut_bids o cap (take 10 bs) ++ cut_book o limits (drop 10 bs)
