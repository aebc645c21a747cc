-- An award as the bid's share of what its rate gets, with a cent while any are left: also where the rate gets all or nothing. Assumes nothing.
use mathlib.Core.Path.{◌≡◌, refl, sym, ap, ◌∙◌}
use mathlib.Core.Bool.{Bool, true, false, cond}
use mathlib.Core.List.{List, [], ◌∷◌, ◌++◌, append_assoc, append-nil}
use Prim.Native.Nat.{ℕ, zero, suc, ◌+◌, ◌-◌, ◌*◌, ◌/◌, ◌≤◌, ◌<◌, min}
use native.Mathlib.Nat.{mul-div_cancel, zero-div, mul-zero}
use native.Mathlib.Omega.{arith}
use lib.Dec.{leb, ltb}
use lib.ListN.{length, take, get_or}
use borrow.Author.Tests.{leb-true, leb-false, ltb-true, ltb-false, le-ltb}
use Rattle.rules.specs.Allotment.{Bid, no_bid, filled, Offer, is_in, is_equal, keep, total_better, total_equal}
use Rattle.rules.specs.Allotment.{share, shares, cents_left, cent, award, awards_from, awards}
use Rattle.rules.proofs.Division.{share_is}
use Rattle.rules.proofs.Sum.{award_out}
use Rattle.steadiness.proofs.Sums.{sum_where, where_keep, total_where}

-- the award at a place

award_from : (o : Offer) (bs before rest : List Bid) (k : ℕ)
    → get_or (awards_from o bs before rest) k 0 ≡ award o bs (before ++ take k rest) (get_or rest k no_bid)
unfolding awards_from is_in filled
award_from o bs before [] k = sym (award_out o bs (before ++ take k []) no_bid refl)
award_from o bs before (b ∷ rest) zero = ap (λ (l : List Bid). award o bs l b) (sym (append-nil before))
award_from o bs before (b ∷ rest) (suc k) =
    award_from o bs (before ++ (b ∷ [])) rest k ∙ ap (λ (l : List Bid). award o bs l (get_or rest k no_bid)) (append_assoc before (b ∷ []) (take k rest))

pub award_at : (o : Offer) (bs : List Bid) (k : ℕ) → get_or (awards o bs) k 0 ≡ award o bs (take k bs) (get_or bs k no_bid)
unfolding awards
award_at o bs k = award_from o bs [] bs k

-- cents

pub cent_grows : (rank cents more : ℕ) → cents ≤ more → cent rank cents ≤ cent rank more
unfolding cent
cent_grows rank cents more h = go (ltb rank cents) (ltb rank more) refl refl
  where
    go : (s t : Bool) → ltb rank cents ≡ s → ltb rank more ≡ t → cond s 1 0 ≤ cond t 1 0
    go true true e f = omega arith
    go true false e f = absurd (omega (arith, ltb-true, ltb-false))
    go false t e f = omega arith

cent_none : (rank : ℕ) → cent rank 0 ≡ 0
unfolding cent
cent_none rank = rw (le-ltb rank 0 (omega arith))

-- a bid's share of u, rounded down, where the bids of its rate come to e
abbrev pub pro_rata : ℕ → ℕ → Bid → ℕ
pro_rata u e b = b.amount * u / e

-- the shares at a rate together
abbrev pub shares_of : Offer → ℕ → ℕ → ℕ → List Bid → ℕ
shares_of o r u e bs = sum_where (is_equal o r) (pro_rata u e) bs

module _ (o : Offer) (bs : List Bid) (r : ℕ) where
  -- what the bids at the rate get in all: what better rates leave, and at most their own total
  abbrev pub allotted_at : ℕ
  allotted_at = min (o.offered - total_better o bs r) (total_equal o bs r)

  -- the cents left of u after the shares of u
  abbrev pub cents_of : ℕ → ℕ
  cents_of u = u - shares_of o r u (total_equal o bs r) bs

  shares_where : shares o bs r (keep (is_equal o r) bs) ≡ shares_of o r (o.offered - total_better o bs r) (total_equal o bs r) bs
  unfolding shares
  shares_where =
      where_keep (shares o bs r) (pro_rata (o.offered - total_better o bs r) (total_equal o bs r)) refl
      (λ b xs. ap (λ (n : ℕ). n + shares o bs r xs) (share_is o bs r b.amount))
      (is_equal o r) bs

-- all of a rate's total is shared without a rest
shared-whole : (p : Bid → Bool) (e : ℕ) → 0 < e → (bs : List Bid) → sum_where p (pro_rata e e) bs ≡ sum_where p (λ b. b.amount) bs
unfolding sum_where
shared-whole p e some [] = refl
shared-whole p e some (b ∷ bs) =
    omega (arith, shared-whole p e some bs, ap (λ (n : ℕ). cond (p b) n 0) (mul-div_cancel b.amount some))

module _ (o : Offer) (bs before : List Bid) (b : Bid) where
  abbrev better : ℕ
  better = total_better o bs b.rate

  abbrev equal : ℕ
  equal = total_equal o bs b.rate

  abbrev rank : ℕ
  rank = length (keep (is_equal o b.rate) before)

  -- the award where the bids at its rate get u in all
  award_of : ℕ → ℕ
  award_of u = pro_rata u equal b + cent rank (cents_of o bs b.rate u)

  of_nothing : 0 ≡ award_of 0
  unfolding award_of
  of_nothing =
      let no_cents : cents_of o bs b.rate 0 ≡ 0 = omega arith in
      omega (arith, ap (λ (n : ℕ). n / equal) (mul-zero b.amount) ∙ zero-div equal, ap (cent rank) no_cents ∙ cent_none rank)

  of_some : 0 < equal → b.amount ≡ award_of equal
  unfolding award_of total_equal
  of_some some =
      let whole = shared-whole (is_equal o b.rate) equal some bs in
      let no_cents : cents_of o bs b.rate equal ≡ 0 = omega (arith, whole, total_where (is_equal o b.rate) bs) in
      omega (arith, mul-div_cancel b.amount some, ap (cent rank) no_cents ∙ cent_none rank)

  of_all : b.amount ≤ equal → b.amount ≡ award_of equal
  of_all fits = go (leb equal 0) refl
    where
      go : (t : Bool) → leb equal 0 ≡ t → b.amount ≡ award_of equal
      go true h =
          let none : 0 ≡ equal = omega (arith, leb-true) in
          let nothing : b.amount ≡ 0 = omega arith in
          nothing ∙ of_nothing ∙ ap award_of none
      go false h = of_some (omega (arith, leb-false))

  of_rest : share o bs b.rate b.amount + cent rank (cents_left o bs b.rate) ≡ award_of (o.offered - better)
  unfolding award_of cents_left
  of_rest = rw (share_is o bs b.rate b.amount, shares_where o bs b.rate)

  -- a bid of the list is in its rate's total
  pub award_is : is_in o b ≡ true
      → b.amount ≤ total_equal o bs b.rate
      → award o bs before b
      ≡ pro_rata (allotted_at o bs b.rate) (total_equal o bs b.rate) b
      + cent (length (keep (is_equal o b.rate) before)) (cents_of o bs b.rate (allotted_at o bs b.rate))
  unfolding award award_of
  award_is inside fits = rw inside (go (leb (better + equal) o.offered) (leb o.offered better) refl refl)
    where
      go : (s t : Bool)
          → leb (better + equal) o.offered ≡ s
          → leb o.offered better ≡ t
          → cond s b.amount (cond t 0 (share o bs b.rate b.amount + cent rank (cents_left o bs b.rate)))
          ≡ award_of (allotted_at o bs b.rate)
      go true t e f = let u : equal ≡ allotted_at o bs b.rate = omega (arith, leb-true) in of_all fits ∙ ap award_of u
      go false true e f = let u : 0 ≡ allotted_at o bs b.rate = omega (arith, leb-true) in of_nothing ∙ ap award_of u
      go false false e f = let u : o.offered - better ≡ allotted_at o bs b.rate = omega (arith, leb-false) in of_rest ∙ ap award_of u

  -- a rate without any amount gets nothing
  pub award-nothing : is_in o b ≡ true → b.amount ≤ total_equal o bs b.rate → total_equal o bs b.rate ≡ 0 → award o bs before b ≡ 0
  unfolding award_of
  award-nothing inside fits none =
      let nothing : allotted_at o bs b.rate ≡ 0 = omega arith in
      award_is inside fits ∙ ap award_of nothing ∙ sym of_nothing
