-- The walk of document 02's S-2, step by step: one counterparty's bids within the limit rate, best first, each cut to what the cap leaves after those
-- before it. Assumes nothing.
use Rattle.std.specs.Prelude.{Bool, cond, List, [], ◌∷◌, map, ℕ, suc, ◌+◌, ◌-◌, eqb}
use Rattle.announcement.specs.declared.Side.{Side}
use Rattle.rules.specs.Allotment.{Bid, no_bid, Offer, better_rate, is_in, keep}
use Rattle.rules.specs.Cuts.{cut_above}

-- 'each counterparty's bids', each with its place
pub record PlacedBid : Type 0 where
  pub place : ℕ
  pub bid : Bid

-- the same, from a list whose first bid stands at the given place
unfoldable pub placed_from : ℕ → List Bid → List PlacedBid
placed_from k [] = []
placed_from k (b ∷ bs) = record { place = k; bid = b } ∷ placed_from (suc k) bs

-- only bids 'within the limit rate are walked'
unfoldable pub is_walked : Offer → PlacedBid → Bool
is_walked o p = is_in o p.bid

-- 'best first, equal rates by place': a bid goes behind those at better rates, and before those of its own rate, which stand at later places
unfoldable pub insert : Side → PlacedBid → List PlacedBid → List PlacedBid
insert d p [] = p ∷ []
insert d p (q ∷ qs) = cond (better_rate d q.bid.rate p.bid.rate) (q ∷ insert d p qs) (p ∷ q ∷ qs)

-- 'best first, equal rates by place': so the last place is inserted first
unfoldable pub best_first : Side → List PlacedBid → List PlacedBid
best_first d [] = []
best_first d (p ∷ ps) = insert d p (best_first d ps)

-- 'each is cut, only where needed and no further': to what the running total leaves of the cap
unfoldable pub cut_next : ℕ → ℕ → PlacedBid → PlacedBid
cut_next cap running p = record { place = p.place; bid = cut_above (cap - running) p.bid }

-- 'so that their running total stays within the cap': what is left of each bid is added to it
unfoldable pub cut_along : ℕ → ℕ → List PlacedBid → List PlacedBid
cut_along cap running [] = []
cut_along cap running (p ∷ ps) = cut_next cap running p ∷ cut_along cap (running + (cut_next cap running p).bid.amount) ps

-- 'each counterparty's bids within the limit rate are walked', from a running total of zero
unfoldable pub walked : Offer → ℕ → List Bid → List PlacedBid
walked o cap bs = cut_along cap 0 (best_first o.side (keep (is_walked o) (placed_from 0 bs)))

-- 'each is cut': what the walk left of the bid at a place
unfoldable pub left_at : ℕ → List PlacedBid → Bid
left_at k [] = no_bid
left_at k (p ∷ ps) = cond (eqb p.place k) p.bid (left_at k ps)

-- only 'bids within the limit rate are walked': the others stay
unfoldable pub after_walk : Offer → List PlacedBid → PlacedBid → Bid
after_walk o ps p = cond (is_walked o p) (left_at p.place ps) p.bid

-- 'the cut bids', each in its place again
unfoldable pub walked_bids : Offer → ℕ → List Bid → List Bid
walked_bids o cap bs = map (after_walk o (walked o cap bs)) (placed_from 0 bs)
