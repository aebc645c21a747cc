-- Awards in the order in which the code computes them: around the last rate served, the cents left at the end. Assumes nothing.
use Rattle.std.specs.Prelude.{◌≡◌, true, cond, ℕ, ◌+◌, ◌-◌, ◌*◌, ◌/◌, leb}
use mathlib.Core.List.{List, [], ◌∷◌, map, Memᴰ}
use Rattle.std.proofs.Math.Option.{Option, none, some}
use Rattle.rules.specs.Allotment.{Bid, Offer, better_rate, is_in, is_equal, total_better, total_equal, award}

-- at the last rate: what an amount gets, the cents left apart, of q offered, where b is the total at better rates and e that at this one
unfoldable pub shared_out : ℕ → ℕ → ℕ → ℕ → ℕ
shared_out q b e a = cond (leb (b + e) q) a (cond (leb q b) 0 (a * (q - b) / e))

-- what a bid is served where r is the last rate, the cents left apart
unfoldable pub served : Offer → ℕ → ℕ → ℕ → Bid → ℕ
served o r b e x =
    cond (is_in o x)
    (cond (better_rate o.side x.rate r) x.amount
    (cond (better_rate o.side r x.rate) 0
    (shared_out o.offered b e x.amount))) 0

unfoldable pub served_all : Offer → ℕ → ℕ → ℕ → List Bid → List ℕ
served_all o r b e bs = map (served o r b e) bs

-- what the bids at the last rate are served together
unfoldable pub shared_at : Offer → ℕ → ℕ → ℕ → List Bid → ℕ
shared_at o r b e [] = 0
shared_at o r b e (x ∷ bs) = cond (is_equal o r x) (served o r b e x) 0 + shared_at o r b e bs

-- the cents left there, where s is what its bids are served together
unfoldable pub cents_at : ℕ → ℕ → ℕ → ℕ → ℕ
cents_at q b e s = cond (leb (b + e) q) 0 (cond (leb q b) 0 ((q - b) - s))

-- what all are served and the cents left, by the totals of the bids
abbrev pub served_in : Offer → List Bid → ℕ → List ℕ
served_in o bs r = served_all o r (total_better o bs r) (total_equal o bs r) bs

abbrev pub cents_in : Offer → List Bid → ℕ → ℕ
cents_in o bs r = cents_at o.offered (total_better o bs r) (total_equal o bs r) (shared_at o r (total_better o bs r) (total_equal o bs r) bs)

-- r is the last rate served: bids in at better rates are awarded in full, at worse rates nothing
abbrev pub LastRate : Offer → List Bid → ℕ → Type 0
LastRate o bs r =
    (before : List Bid) (x : Bid)
    → Memᴰ x bs
    → is_in o x ≡ true
    → (better_rate o.side x.rate r ≡ true → award o bs before x ≡ x.amount) × (better_rate o.side r x.rate ≡ true → award o bs before x ≡ 0)

-- the last rate served: the marginal rate, or the limit rate where there is none
unfoldable pub last_of : Offer → Option ℕ → ℕ
last_of o none = o.limit
last_of o (some r) = r

-- what serving all bids writes, and what those at the last rate are served together
pub record ServesAll (o : Offer) (r b e : ℕ) (bs : List Bid) (after : List ℕ) (shared : ℕ) : Type 0 where
  pub awards_are : after ≡ served_all o r b e bs
  pub shared_is : shared ≡ shared_at o r b e bs
