-- The marginal rate as document 01's, and bids in as keys that rise from the best rate to the worst, and in book order at one rate. Assumes nothing.
use Rattle.std.specs.Prelude.{◌≡◌, Bool, true, ◌&&◌, List, [], ◌∷◌, ℕ, ◌+◌, ◌/◌, ◌%◌, ◌≤◌, ◌<◌, ltb, length, get_or, take, Some, None}
use Rattle.std.specs.Prelude as prelude
use Rattle.std.proofs.Math.Option.{Option, none, some}
use Rattle.sort.specs.Sorting.{weight_of}
use Rattle.places.specs.declared.Rate.{Rate}
use Rattle.rules.specs.Allotment.{Bid, no_bid, Offer, is_in, keep}
use Rattle.offer.specs.Viewed.{ranks}

-- 'the first rate .., or none'
abbrev pub rate_in : prelude.Option Rate → Option ℕ
rate_in (Some r) = some r.0
rate_in None = none

-- the bid of a key: its index stands in the last ten binary digits
abbrev pub key_bid : List Bid → ℕ → Bid
key_bid bs k = get_or bs (k % 1024) no_bid

-- k is the key of a bid in
unfoldable pub is_key : Offer → List Bid → ℕ → Bool
is_key o bs k = is_in o (key_bid bs k) && (ltb (k % 1024) (length bs) && ranks o.side (key_bid bs k).rate (k / 1024))

-- what bids weigh together, each by its weight
unfoldable pub weight : (Bid → ℕ) → List Bid → ℕ
weight w [] = 0
weight w (b ∷ bs) = w b + weight w bs

-- the keys are those of the bids in: each is the key of one, and by any weights they weigh the same
pub record Ranked (o : Offer) (bs : List Bid) (keys : List ℕ) : Type 0 where
  pub are_keys : (j : ℕ) → j < length keys → is_key o bs (get_or keys j 0) ≡ true
  pub weigh : (w : Bid → ℕ) → weight_of (λ k. w (key_bid bs k)) keys ≡ weight w (keep (is_in o) bs)

-- the first n of the keys are those of the bids in, of at most so many
pub record RankedFirst (o : Offer) (bs : List Bid) (most n : ℕ) (keys : List ℕ) : Type 0 where
  pub few : n ≤ most
  pub ranked : Ranked o bs (take n keys)
