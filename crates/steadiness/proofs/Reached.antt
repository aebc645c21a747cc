-- Raised by d, whatever d is, a bid can move another award by d. Assumes nothing.
use mathlib.Core.Path.{◌≡◌, refl, ap}
use mathlib.Core.Bool.{Bool, true, false, cond}
use mathlib.Core.List.{[], ◌∷◌}
use Prim.Native.Nat.{ℕ, ◌+◌}
use native.Mathlib.Omega.{arith}
use lib.Dec.{leb}
use borrow.Author.Tests.{leb-true, le-leb}
use Rattle.rules.specs.Allotment.{filled, better_rate, is_in, is_better, is_equal, keep, total, total_better, total_equal, award, awards_from, awards}
use Rattle.steadiness.specs.Steadiness.{raised_at, offer_reaching, bids_reaching, ReachesD}

-- the first bid is served in full, and so is the second by what the first leaves
before : (d : ℕ) → awards (offer_reaching d) (bids_reaching d) ≡ 1 ∷ d ∷ []
unfolding awards awards_from award filled better_rate is_in is_better is_equal keep total total_better total_equal
before d = rw (le-leb 1 (1 + d) (omega arith), le-leb (1 + (d + 0)) (1 + d) (omega arith))

-- raised, the first leaves nothing
after : (d : ℕ) → awards (offer_reaching d) (raised_at 0 d (bids_reaching d)) ≡ (1 + d) ∷ 0 ∷ []
unfolding awards awards_from award filled better_rate is_in is_better is_equal keep total total_better total_equal
after d =
    rw (le-leb (0 + (1 + d + 0)) (1 + d) (omega arith), le-leb (1 + d) (1 + d + 0) (omega arith))
    (ap (λ (n : ℕ). (1 + d) ∷ n ∷ []) (none_left (leb (1 + d + 0 + (d + 0)) (1 + d)) refl))
  where
    none_left : (t : Bool) → leb (1 + d + 0 + (d + 0)) (1 + d) ≡ t → cond t d 0 ≡ 0
    none_left true h = omega (arith, leb-true)
    none_left false h = refl

pub reaches_d : ReachesD
reaches_d d = (before d, after d)
