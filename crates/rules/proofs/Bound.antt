-- Where each filled place of the book has an amount above zero, no award exceeds its bid. Assumes nothing.
use mathlib.Core.Path.{◌≡◌, refl}
use mathlib.Core.Bool.{Bool, true, false, not, cond}
use mathlib.Core.List.{List, [], ◌∷◌, ◌++◌, Memᴰ}
use Prim.Native.Nat.{ℕ, zero, suc, ◌+◌, ◌-◌, ◌≤◌, ◌<◌}
use native.Mathlib.Nat.{mul-lt-mul_of_pos_left, div-lt_iff_lt-mul}
use native.Mathlib.Omega.{arith}
use lib.Dec.{leb, ltb}
use lib.ListN.{length, get_or}
use borrow.Author.Tests.{leb-false}
use Rattle.rules.specs.Allotment.{
  Bid,
  no_bid,
  filled,
  Offer,
  is_in,
  is_equal,
  keep,
  total_better,
  total_equal,
  share,
  cents_left,
  cent,
  award,
  awards_from,
  awards,
}
use Rattle.rules.proofs.Division.{share_is}
use Rattle.rules.proofs.Filled.{in_filled}

pub cent_le : (before cents : ℕ) → cent before cents ≤ 1
unfolding cent
cent_le before cents = go (ltb before cents)
  where
    go : (t : Bool) → cond t 1 0 ≤ 1
    go true = omega arith
    go false = omega arith

module _ (o : Offer) (bs : List Bid) where
  -- with B < Q < B + E the share is under the amount, so that a cent fits
  share_below : (r a : ℕ) → o.offered < total_better o bs r + total_equal o bs r → total_better o bs r < o.offered → 0 < a → share o bs r a < a
  share_below r a under over pos =
      let some_equal : 0 < total_equal o bs r = omega arith in
      let less : o.offered - total_better o bs r < total_equal o bs r = omega arith in
      rw share_is ((div-lt_iff_lt-mul some_equal).1 (mul-lt-mul_of_pos_left {k = a} less pos))

  award_le : (before : List Bid) (b : Bid) → (filled b ≡ true → 0 < b.amount) → award o bs before b ≤ b.amount
  unfolding award
  award_le before b above =
      go
      (is_in o b)
      (leb (total_better o bs b.rate + total_equal o bs b.rate) o.offered)
      (leb o.offered (total_better o bs b.rate))
      refl refl refl
    where
      go : (i s t : Bool) → is_in o b ≡ i → leb (total_better o bs b.rate + total_equal o bs b.rate) o.offered ≡ s
          → leb o.offered (total_better o bs b.rate) ≡ t
          → cond (not i) 0
          (cond s b.amount
          (cond t 0
          (share o bs b.rate b.amount + cent (length (keep (is_equal o b.rate) before)) (cents_left o bs b.rate))))
          ≤ b.amount
      go false s t e f g = omega arith
      go true true t e f g = omega arith
      go true false true e f g = omega arith
      go true false false e f g =
          let pos : 0 < b.amount = above (in_filled o b e) in
          let below = share_below b.rate b.amount (leb-false _ _ f) (leb-false _ _ g) pos in
          omega (arith, cent_le (length (keep (is_equal o b.rate) before)) (cents_left o bs b.rate))

  bounded_from : (before rest : List Bid) → ((b : Bid) → Memᴰ b rest → filled b ≡ true → 0 < b.amount) → (k : ℕ) → k < length rest
      → get_or (awards_from o bs before rest) k 0 ≤ (get_or rest k no_bid).amount
  unfolding awards_from
  bounded_from before [] above k h = absurd (omega arith)
  bounded_from before (b ∷ rest) above zero h = award_le before b (above b (Memᴰ.head refl))
  bounded_from before (b ∷ rest) above (suc k) h = bounded_from (before ++ (b ∷ [])) rest (λ c m. above c (Memᴰ.tail m)) k (omega arith)

  pub award_bounded : ((b : Bid) → Memᴰ b bs → filled b ≡ true → 0 < b.amount) → (k : ℕ) → k < length bs
      → get_or (awards o bs) k 0 ≤ (get_or bs k no_bid).amount
  unfolding awards
  award_bounded above k h = bounded_from [] bs above k h
