-- The theorems of specs/Theorems about whole allotments. Assumes nothing.
use mathlib.Core.Path.{◌≡◌, refl, ap, ap₂, ◌∙◌}
use mathlib.Core.List.{List, [], ◌∷◌}
use Prim.Native.Nat.{ℕ, zero, suc, ◌+◌, ◌-◌, ◌≤◌, ◌<◌, min}
use native.Mathlib.Omega.{arith}
use lib.ListN.{length, get_or, replicate}
use Rattle.rules.specs.Allotment.{Bid, Offer, awards, sum, total_in}
use Rattle.smallest_award.specs.SmallestAward.{given_award, given_awards, dropped_cents}
use Rattle.rules.specs.Opening.{Terms}
use Rattle.rules.specs.Calls.{bids_taken, bid_awards, marginal_given}
use Rattle.rules.proofs.Sum.{awards-sum}
use Rattle.rules.proofs.Links.{length-awards}
use Rattle.smallest_award.proofs.SmallestAward.{given_and_dropped}
use Rattle.smallest_award.specs.Theorems.{DropsAll, with_allocation, AsBefore}
use Rattle.smallest_award.proofs.Given.{given_below}

-- awards that are all below the minimum
all_zeros : (m : ℕ) (xs : List ℕ) → sum xs < m → given_awards m xs ≡ replicate (length xs) 0
unfolding given_awards sum
all_zeros m [] h = refl
all_zeros m (x ∷ xs) h = ap₂ (λ (y : ℕ) (l : List ℕ). y ∷ l) (given_below m x (omega arith)) (all_zeros m xs (omega arith))

zeros_sum : (n : ℕ) → sum (replicate n 0) ≡ 0
unfolding sum
zeros_sum zero = refl
zeros_sum (suc n) = omega (arith, zeros_sum n)

pub drops_all : DropsAll
drops_all o bs m h =
    let xs = awards o bs in
    let few : sum xs < m = omega (arith, awards-sum o bs) in
    let zeros = all_zeros m xs few in (
      zeros ∙ ap (λ (n : ℕ). replicate n 0) (length-awards o bs),
      omega (arith, given_and_dropped m xs, ap sum zeros, zeros_sum (length xs), awards-sum o bs),
    )

pub as_before : AsBefore
unfolding marginal_given bid_awards bids_taken
as_before t m bs = (refl, refl)
