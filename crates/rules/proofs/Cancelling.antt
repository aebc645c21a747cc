-- A message of ten zero places: it cancels, and what it leaves are ten zeros. Assumes nothing.
use mathlib.Core.Path.{◌≡◌, refl, sym, ◌∙◌, ap, ap₂}
use mathlib.Core.Bool.{Bool, true, false, cond, not, ◌&&◌}
use mathlib.Core.List.{List, [], ◌∷◌, map}
use mathlib.Core.Option.{some}
use Prim.Native.Nat.{ℕ, zero, suc}
use lib.Dec.{eqb}
use lib.ListN.{length, drop, replicate}
use borrow.Author.Tests.{eqb-true, not-true, not-false}
use Rattle.laws.proofs.Tests.{and_left, and_right, or_left, or_right}
use Rattle.places.specs.Bids.{places_in}
use Rattle.envelope.specs.declared.application.Field.TheVariants.{Bids}
use Rattle.envelope.specs.Application.{bytes_of}
use Rattle.rules.specs.Allotment.{Bid, no_bid, filled}
use Rattle.rules.specs.Opening.{Terms, any}
use Rattle.rules.specs.Receiving.{Reception, bid_of, bids_in, Submission, submission, cancels, ten_zeros, hold}
use Rattle.rules.specs.ArrivalOrder.{bids_of_latest}
use Rattle.rules.specs.Theorems.{CancelsWithTenZeros, CancellingHoldsZeros}

-- a message has ten places
places-length : (n : ℕ) (s : List ℕ) → length (map bid_of (places_in n s)) ≡ n
unfolding places_in
places-length zero s = refl
places-length (suc n) s = ap suc (places-length n (drop 24 s))

pub ten-places : (t : Terms) (r : Reception) → length (submission t r).bids ≡ 10
unfolding submission bids_in
ten-places t r = places-length 10 (bytes_of Bids r.message)

-- where no place is filled, all are zeros
not_filled : (b : Bid) → filled b ≡ false → b ≡ no_bid
unfolding filled
not_filled b h =
    let both : (eqb b.rate 0 && eqb b.amount 0) ≡ true = not-false (eqb b.rate 0 && eqb b.amount 0) h in
    let r : b.rate ≡ 0 = eqb-true b.rate 0 (and_left (eqb b.rate 0) (eqb b.amount 0) both) in
    let a : b.amount ≡ 0 = eqb-true b.amount 0 (and_right (eqb b.rate 0) (eqb b.amount 0) both) in
    λ i. record { rate = r i; amount = a i }

none_filled : (bs : List Bid) → any filled bs ≡ false → bs ≡ replicate (length bs) no_bid
unfolding any
none_filled [] h = refl
none_filled (b ∷ bs) h =
    ap₂ (λ (x : Bid) (xs : List Bid). x ∷ xs) (not_filled b (or_left (filled b) (any filled bs) h)) (none_filled bs (or_right (filled b) (any filled bs) h))

module _ (s : Submission) (ten : length s.bids ≡ 10) where
  pub cancelled_zeros : cancels s ≡ true → s.bids ≡ ten_zeros
  unfolding cancels
  cancelled_zeros h = none_filled s.bids (not-true (any filled s.bids) h) ∙ ap (λ (n : ℕ). replicate n no_bid) ten

  -- so that a message of ten places leaves its bids, whether it cancels or not
  pub latest-bids : bids_of_latest (some s) ≡ s.bids
  unfolding bids_of_latest
  latest-bids = go (cancels s) refl
    where
      go : (c : Bool) → cancels s ≡ c → cond c ten_zeros s.bids ≡ s.bids
      go true e = sym (cancelled_zeros e)
      go false e = refl

zeros_cancel : (s : Submission) → s.bids ≡ ten_zeros → cancels s ≡ true
unfolding cancels any filled
zeros_cancel s e = ap (λ (bs : List Bid). not (any filled bs)) e

pub cancels_with_ten_zeros : CancelsWithTenZeros
cancels_with_ten_zeros t r = (cancelled_zeros (submission t r) (ten-places t r), zeros_cancel (submission t r))

pub cancelling_holds_zeros : CancellingHoldsZeros
unfolding hold
cancelling_holds_zeros t r e c k =
    rw k (ap (λ (bs : List Bid). record { code = e.code; held = some (submission t r).time; bids = bs }) (cancelled_zeros (submission t r) (ten-places t r) c))
