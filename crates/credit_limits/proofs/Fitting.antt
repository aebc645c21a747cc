-- A bid that fits stays as it is, and an only bid is cut to the cap. Assumes nothing.
use mathlib.Core.Path.{◌≡◌, refl, sym, ◌∙◌, ap, ap₂}
use mathlib.Core.Bool.{Bool, true, false, cond, ◌&&◌, and-false, false≢true}
use mathlib.Core.List.{List, [], ◌∷◌, ◌++◌, append_assoc, append-nil}
use Prim.Native.Nat.{ℕ, zero, suc, ◌+◌, ◌-◌, ◌≤◌, ◌<◌, min}
use native.Mathlib.Omega.{arith}
use lib.Dec.{ltb}
use lib.ListN.{get_or, take, replicate}
use borrow.Author.Tests.{ltb-true, ltb-false}
use Rattle.rules.specs.Allotment.{Bid, no_bid, filled, Offer, is_in, is_better, keep, total, total_better, total_equal}
use Rattle.rules.specs.Cuts.{invests, is_capped, cut_to, cut_above, left_of_cap, cut_bid, cut_from, cut_bids}
use Rattle.rules.proofs.Kept.{total_cons}
use Rattle.rules.proofs.Rates.{not_itself}
use Rattle.rules.proofs.Absent.{better}
use Rattle.credit_limits.specs.Theorems.{FittingStay, OnlyBidCut}
use Rattle.credit_limits.proofs.Capped.{bids_cut}

module _ (o : Offer) (cap : ℕ) (bs : List Bid) where
  empty_stays : (before : List Bid) → cut_bid o cap bs before no_bid ≡ no_bid
  unfolding cut_bid is_in filled
  empty_stays before = refl

  -- the bid at a place, with the places before it
  cut_at : (before rest : List Bid) (k : ℕ)
      → get_or (cut_from o cap bs before rest) k no_bid ≡ cut_bid o cap bs (before ++ take k rest) (get_or rest k no_bid)
  unfolding cut_from
  cut_at before [] k = sym (empty_stays (before ++ take k []))
  cut_at before (b ∷ rest) zero = ap (λ (l : List Bid). cut_bid o cap bs l b) (sym (append-nil before))
  cut_at before (b ∷ rest) (suc k) =
      cut_at (before ++ (b ∷ [])) rest k
      ∙ ap (λ (l : List Bid). cut_bid o cap bs l (get_or rest k no_bid)) (append_assoc before (b ∷ []) (take k rest))

  fits : (before : List Bid) (b : Bid) → total_better o bs b.rate + total_equal o before b.rate + b.amount ≤ cap → cut_bid o cap bs before b ≡ b
  unfolding cut_bid cut_above left_of_cap
  fits before b h = go (is_in o b) (ltb (cap - (total_better o bs b.rate + total_equal o before b.rate)) b.amount) refl
    where
      go : (s t : Bool)
          → ltb (cap - (total_better o bs b.rate + total_equal o before b.rate)) b.amount ≡ t
          → cond s (cond t (cut_to (cap - (total_better o bs b.rate + total_equal o before b.rate)) b) b) b ≡ b
      go false t e = refl
      go true false e = refl
      go true true e = absurd (omega (arith, ltb-true))

pub fitting_stay : FittingStay
unfolding cut_bids
fitting_stay o cap bs k h = go (is_capped o cap)
  where
    go : (t : Bool) → get_or (cond t (cut_from o cap bs [] bs) bs) k no_bid ≡ get_or bs k no_bid
    go true = cut_at o cap bs [] bs k ∙ fits o cap bs (take k bs) (get_or bs k no_bid) h
    go false = refl

module _ (o : Offer) (cap : ℕ) (b : Bid) (n : ℕ) where
  abbrev alone : List Bid
  alone = b ∷ replicate n no_bid

  not_better_itself : is_better o b.rate b ≡ false
  unfolding is_better
  not_better_itself = ap (λ (t : Bool). is_in o b && t) (not_itself o.side b.rate) ∙ and-false (is_in o b)

  nothing_better : total_better o alone b.rate ≡ 0
  unfolding total_better keep total
  nothing_better = better o (b ∷ []) n b.rate ∙ total_cons (is_better o b.rate) b [] ∙ ap (λ (t : Bool). cond t b.amount 0 + 0) not_better_itself

  all_left : left_of_cap o cap alone [] b ≡ cap
  unfolding left_of_cap total_equal keep total
  all_left = omega (arith, nothing_better)

  rest_empty : (bs before : List Bid) (k : ℕ) → cut_from o cap bs before (replicate k no_bid) ≡ replicate k no_bid
  unfolding cut_from
  rest_empty bs before zero = refl
  rest_empty bs before (suc k) = ap₂ (λ (c : Bid) (l : List Bid). c ∷ l) (empty_stays o cap bs before) (rest_empty bs (before ++ (no_bid ∷ [])) k)

  alone_cut : is_in o b ≡ true → cut_bid o cap alone [] b ≡ cut_above cap b
  unfolding cut_bid
  alone_cut inside =
      ap (λ (t : Bool). cond t (cut_above (left_of_cap o cap alone [] b) b) b) inside ∙ ap (λ (m : ℕ). cut_above m b) all_left

-- of a bid there is left the smaller of a cap and its amount
cap_not_zero : (o : Offer) (cap : ℕ) → is_capped o cap ≡ true → 0 < cap
unfolding is_capped
cap_not_zero o zero h = absurd (false≢true (sym (and-false (invests o.side)) ∙ h))
cap_not_zero o (suc cap) h = omega arith

smaller_left : (cap : ℕ) (b : Bid) → 0 < cap → cut_above cap b ≡ record { rate = b.rate; amount = min cap b.amount }
unfolding cut_above cut_to
smaller_left zero b h = absurd (omega arith)
smaller_left (suc cap) b h = go (ltb (suc cap) b.amount) refl
  where
    go : (t : Bool) → ltb (suc cap) b.amount ≡ t → cond t (record { rate = b.rate; amount = suc cap }) b ≡ record { rate = b.rate; amount = min (suc cap) b.amount }
    go true e = ap (λ (n : ℕ). record { rate = b.rate; amount = n }) (let l = ltb-true (suc cap) b.amount e in let m : suc cap ≡ min (suc cap) b.amount = omega (arith, l) in m)
    go false e = ap (λ (n : ℕ). record { rate = b.rate; amount = n }) (let l = ltb-false (suc cap) b.amount e in let m : b.amount ≡ min (suc cap) b.amount = omega (arith, l) in m)

pub only_bid_cut : OnlyBidCut
unfolding cut_from
only_bid_cut o cap b n capped inside =
    bids_cut o cap (b ∷ replicate n no_bid) capped
    ∙ ap₂ (λ (c : Bid) (l : List Bid). c ∷ l) (alone_cut o cap b n inside ∙ smaller_left cap b (cap_not_zero o cap capped)) (rest_empty o cap b n (b ∷ replicate n no_bid) (b ∷ []) n)
