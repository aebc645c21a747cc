-- One bid raised by d moves every other award by at most d, and so by at most d + 1; by d it can. Assumes nothing.
use mathlib.Core.Path.{◌≡◌, refl, ap, ap₂, ◌∙◌}
use mathlib.Core.Bool.{Bool, true, false, ◌&&◌}
use mathlib.Core.List.{List}
use Prim.Native.Nat.{ℕ, zero, suc, ◌+◌, ◌-◌, ◌≤◌, ◌<◌}
use native.Mathlib.Nat.{add-zero}
use native.Mathlib.Omega.{arith}
use lib.Dec.{leb}
use lib.ListN.{length, take, get_or, set}
use lib.Seq.{set-get_or, get_or-set_other}
use borrow.Author.Tests.{leb-true, leb-false, eq-eqb}
use Rattle.rules.specs.Allotment.{Bid, no_bid, Offer, is_in, is_equal, keep, total_equal, cent, award, awards}
use Rattle.rules.proofs.Bound.{cent_le}
use Rattle.rules.proofs.Sum.{award_out}
use Rattle.steadiness.specs.Steadiness.{raised, raised_at, DifferByAtMost, Steady, SteadyByD}
use Rattle.steadiness.proofs.Floors.{share_falls, share_falls_little}
use Rattle.steadiness.proofs.Sums.{where_falls, rank_set}
use Rattle.steadiness.proofs.ProRata.{award_at, cent_grows, pro_rata, shares_of, award_is, award-nothing}
use Rattle.steadiness.proofs.Raised.{none_equal, in_total, raised-equal, still_nothing, Moves, moves}

-- a bid in is one of its rate
in_equal : (o : Offer) (x : Bid) → is_in o x ≡ true → is_equal o x.rate x ≡ true
unfolding is_equal
in_equal o x inside = ap₂ ◌&&◌ inside (eq-eqb x.rate x.rate refl)

module _ (o : Offer) (bs : List Bid) (place d : ℕ) (some : 0 < (get_or bs place no_bid).amount) (k : ℕ) (other : k ≡ place → ⊥) where
  abbrev second : List Bid
  second = raised_at place d bs

  -- another bid, the same in both lists
  abbrev x : Bid
  x = get_or bs k no_bid

  same-bid : get_or second k no_bid ≡ x
  same-bid = get_or-set_other bs place k (raised d (get_or bs place no_bid)) no_bid other

  -- with the cents
  differ_at : 0 < d
      → is_in o x ≡ true
      → (rank u₁ u₂ e₁ e₂ : ℕ)
      → Moves o bs place d some x.rate u₁ u₂ e₁ e₂
      → x.amount ≤ e₂
      → DifferByAtMost d
      (pro_rata u₁ e₁ x + cent rank (u₁ - shares_of o x.rate u₁ e₁ bs))
      (pro_rata u₂ e₂ x + cent rank (u₂ - shares_of o x.rate u₂ e₂ second))
  differ_at rises inside rank u₁ u₂ e₁ e₂ m fits =
      (down (leb (pro_rata u₂ e₂ x + d) (pro_rata u₁ e₁ x)) refl, omega (arith, low x, cent_le rank cents₂))
    where
      cents₁ : ℕ
      cents₁ = u₁ - shares_of o x.rate u₁ e₁ bs

      cents₂ : ℕ
      cents₂ = u₂ - shares_of o x.rate u₂ e₂ second

      low : (b : Bid) → pro_rata u₂ e₂ b ≤ pro_rata u₁ e₁ b
      low b = share_falls m.falls b.amount

      down : (t : Bool)
          → leb (pro_rata u₂ e₂ x + d) (pro_rata u₁ e₁ x) ≡ t
          → pro_rata u₁ e₁ x + cent rank cents₁ ≤ pro_rata u₂ e₂ x + cent rank cents₂ + d
      down true h =
          let p = is_equal o x.rate in
          let in_others : get_or (set bs place no_bid) k no_bid ≡ x = get_or-set_other bs place k no_bid no_bid other in
          let all = where_falls p (none_equal o x.rate) (pro_rata u₁ e₁) (pro_rata u₂ e₂) d low (set bs place no_bid) k
          (ap p in_others ∙ in_equal o x inside) (rw in_others (leb-true _ _ h)) in
          omega (arith, share_falls_little m.falls x.amount fits, cent_grows rank cents₁ cents₂ (m.cents all))
      down false h = omega (arith, leb-false, cent_le rank cents₁)

  differ_in : 0 < d → is_in o x ≡ true → DifferByAtMost d (award o bs (take k bs) x) (award o second (take k second) x)
  differ_in rises inside = go (leb (total_equal o bs x.rate) 0) refl
    where
      r : ℕ
      r = x.rate

      fits-first : x.amount ≤ total_equal o bs r
      fits-first = in_total o bs r k x refl (in_equal o x inside)

      fits_second : x.amount ≤ total_equal o second r
      fits_second = in_total o second r k x same-bid (in_equal o x inside)

      same_rank : length (keep (is_equal o r) (take k second)) ≡ length (keep (is_equal o r) (take k bs))
      same_rank = rank_set (is_equal o r) bs place k (raised d (get_or bs place no_bid)) (raised-equal o (get_or bs place no_bid) d some r)

      go : (t : Bool) → leb (total_equal o bs r) 0 ≡ t → DifferByAtMost d (award o bs (take k bs) x) (award o second (take k second) x)
      go true h =
          let none : total_equal o bs r ≡ 0 = omega (arith, leb-true) in
          omega (
            arith,
            award-nothing o bs (take k bs) x inside fits-first none,
            award-nothing o second (take k second) x inside fits_second (still_nothing o bs place d some r none),
          )
      go false h =
          let m = moves o bs place d some r (omega (arith, leb-false)) in
          rw (award_is o bs (take k bs) x inside fits-first, award_is o second (take k second) x inside fits_second, same_rank)
          (differ_at rises inside (length (keep (is_equal o r) (take k bs))) _ _ _ _ m fits_second)

  differ : 0 < d → DifferByAtMost d (get_or (awards o bs) k 0) (get_or (awards o second) k 0)
  differ rises = rw (award_at o bs k, award_at o second k, same-bid) (go (is_in o x) refl)
    where
      go : (t : Bool) → is_in o x ≡ t → DifferByAtMost d (award o bs (take k bs) x) (award o second (take k second) x)
      go true h = differ_in rises h
      go false h = omega (arith, award_out o bs (take k bs) x h, award_out o second (take k second) x h)

-- raised by nothing
raised_none : (bs : List Bid) (place : ℕ) → raised_at place 0 bs ≡ bs
raised_none bs place =
    let b = get_or bs place no_bid in
    ap (λ (n : ℕ). set bs place (record { rate = b.rate; amount = n })) (add-zero b.amount) ∙ set-get_or bs place no_bid

pub steady_by_d : SteadyByD
steady_by_d o bs place zero some k other =
    omega (arith, ap {B = ℕ} (λ (l : List Bid). get_or (awards o l) k 0) (raised_none bs place))
steady_by_d o bs place (suc d) some k other = differ o bs place (suc d) some k other (omega arith)

pub steady : Steady
steady o bs place d some k other = let within = steady_by_d o bs place d some k other in omega (arith, within)
