-- Bids in columns: windows of them, and one bid of a window. Assumes nothing.
use mathlib.Core.Path.{◌≡◌, refl, sym, ap, ap₂, ◌∙◌}
use mathlib.Core.List.{List, [], ◌∷◌, ◌++◌, map}
use Prim.Native.Nat.{ℕ, zero, suc, ◌+◌, ◌<◌}
use native.Mathlib.Nat.{zero-add, add-zero, suc-add, add-suc}
use native.Mathlib.Omega.{arith}
use lib.ListN.{length, get_or, drop}
use Rattle.places.specs.declared.Rate.{Rate}
use Rattle.places.specs.declared.Amount.{Amount}
use Rattle.places.specs.declared.Place.{Place}
use Rattle.places.specs.Bids.{places_in}
use Rattle.rules.specs.Allotment.{Bid, no_bid}
use Rattle.rules.specs.Receiving.{bid_of}
use Rattle.bids.specs.Columns.{no_rate, no_amount, bid_at, bids_from}

pub bids_add : (rates : List Rate) (amounts : List Amount) (i d e : ℕ)
    → bids_from rates amounts i (d + e) ≡ bids_from rates amounts i d ++ bids_from rates amounts (i + d) e
unfolding bids_from
bids_add rates amounts i zero e = rw (zero-add, add-zero)
bids_add rates amounts i (suc d) e = rw (suc-add, add-suc, ← suc-add) (rw (bids_add rates amounts (suc i) d e))

pub length-bids : (rates : List Rate) (amounts : List Amount) (i d : ℕ) → length (bids_from rates amounts i d) ≡ d
unfolding bids_from
length-bids rates amounts i zero = refl
length-bids rates amounts i (suc d) = ap suc (length-bids rates amounts (suc i) d)

pub ten-bids : (rates : List Rate) (amounts : List Amount) → length (bids_from rates amounts 0 10) ≡ 10
ten-bids rates amounts = length-bids rates amounts 0 10

-- the bid at an index of a window
bid_in_lem : (rates : List Rate) (amounts : List Amount) (i d k : ℕ) → k < d → get_or (bids_from rates amounts i d) k no_bid ≡ bid_at rates amounts (i + k)
unfolding bids_from
bid_in_lem rates amounts i zero k h = absurd (omega arith)
bid_in_lem rates amounts i (suc d) zero h = rw add-zero
bid_in_lem rates amounts i (suc d) (suc k) h = bid_in_lem rates amounts (suc i) d k (omega arith) ∙ rw (suc-add, add-suc)

-- the bid at an index of the first d
pub bid_is : (rates : List Rate) (amounts : List Amount) (d k : ℕ) → k < d → get_or (bids_from rates amounts 0 d) k no_bid ≡ bid_at rates amounts k
bid_is rates amounts d k h = bid_in_lem rates amounts 0 d k h ∙ rw zero-add

-- the bid of a rate and an amount that stand at one index
pub bid_passed : (rates : List Rate) (amounts : List Amount) (k : ℕ) (r : Rate) (a : Amount) → k < 10 → r ≡ get_or rates k no_rate → a ≡ get_or amounts k no_amount
    → get_or (bids_from rates amounts 0 10) k no_bid ≡ record { rate = r.0; amount = a.0 }
bid_passed rates amounts k r a h p q = bid_is rates amounts 10 k h ∙ sym (ap₂ {C = Bid} (λ (x : Rate) (y : Amount). record { rate = x.0; amount = y.0 }) p q)

pub bids_shifted : (r : Rate) (rs : List Rate) (x : Amount) (xs : List Amount) (i d : ℕ) → bids_from (r ∷ rs) (x ∷ xs) (suc i) d ≡ bids_from rs xs i d
unfolding bids_from
bids_shifted r rs x xs i zero = refl
bids_shifted r rs x xs i (suc d) = ap (λ (l : List Bid). bid_at rs xs i ∷ l) (bids_shifted r rs x xs (suc i) d)

-- places in columns are their bids
pub bids-columns : (ps : List Place) → bids_from (map (λ (p : Place). p.rate) ps) (map (λ (p : Place). p.amount) ps) 0 (length ps) ≡ map bid_of ps
unfolding bids_from
bids-columns [] = refl
bids-columns (p ∷ ps) =
    ap (λ l. bid_of p ∷ l)
    (bids_shifted p.rate (map (λ (q : Place). q.rate) ps) p.amount (map (λ (q : Place). q.amount) ps) 0 (length ps) ∙ bids-columns ps)

length-places : (n : ℕ) (s : List ℕ) → length (places_in n s) ≡ n
unfolding places_in
length-places zero s = refl
length-places (suc n) s = ap suc (length-places n (drop 24 s))

-- ten places read from a field are its bids
pub bids-ten : (s : List ℕ)
    → bids_from (map (λ (p : Place). p.rate) (places_in 10 s)) (map (λ (p : Place). p.amount) (places_in 10 s)) 0 10 ≡ map bid_of (places_in 10 s)
bids-ten s =
    ap (bids_from (map (λ (p : Place). p.rate) (places_in 10 s)) (map (λ (p : Place). p.amount) (places_in 10 s)) 0) (sym (length-places 10 s))
    ∙ bids-columns (places_in 10 s)
