-- What is walked before a bid in LP: added up place by place, within the whole, and what the rules say of a bid in. Assumes nothing.
use mathlib.Core.Path.{◌≡◌, refl, sym, ap, ◌∙◌}
use mathlib.Core.Bool.{Bool, true, false, cond, not, ◌||◌, ◌&&◌, and-true, and-false, false≢true}
use mathlib.Core.List.{List, [], ◌∷◌}
use Prim.Native.Nat.{ℕ, zero, suc, ◌+◌, ◌-◌, ◌≤◌, ◌<◌}
use native.Mathlib.Numerals.{add-one}
use native.Mathlib.Omega.{arith}
use borrow.Author.Tests.{ltb-true, ltb-false, lt-ltb, le-ltb, eqb-true, ne_eqb, not-true}
use lib.Dec.{ltb, eqb}
use lib.ListN.{length, take, drop, get_or, drop_of_length-le}
use Rattle.announcement.specs.declared.Side.{Side}
use Rattle.announcement.specs.declared.Side.TheVariants.{Lp}
use Rattle.laws.proofs.Tests.{and_right}
use Rattle.rules.specs.Allotment.{Bid, no_bid, filled, Offer, better_rate, is_in, is_better, is_equal, keep, total, total_better, total_equal}
use Rattle.rules.specs.Cuts.{left_of_cap}
use Rattle.rules.proofs.Kept.{total_cons}
use Rattle.bids.specs.declared.Bid as declared
use Rattle.bids.specs.Columns.{viewed}
use Rattle.bids.proofs.SideBySide.{drop-at}
use Rattle.cuts.specs.Walked.{walked_before, walked}

-- the bid at j added
pub walked_more : (r i : ℕ) (bs : List Bid) (j n a w : ℕ) (b : declared.Bid) → j < length bs → viewed b ≡ get_or bs j no_bid
    → n + walked r i j (drop j bs) ≡ w → a ≡ cond (walked_before r i j (viewed b)) b.amount.0 0 → n + a + walked r i (j + 1) (drop (j + 1) bs) ≡ w
unfolding walked
walked_more r i bs j n a w b h is k g =
    let rest = drop (j + 1) bs in
    omega (
      arith,
      ap (walked r i j) (drop-at bs j h),
      ap (λ (x : Bid). cond (walked_before r i j x) x.amount 0) is,
      ap (λ (m : ℕ). walked r i m rest) (add-one j),
    )

-- at the end it is the whole
pub walked_end : (r i j : ℕ) (bs : List Bid) → length bs ≤ j → walked r i j (drop j bs) ≡ 0
unfolding walked
walked_end r i j bs h = ap (walked r i j) (drop_of_length-le bs h)

-- no such sum is above the total of all
pub walked_le : (r i j : ℕ) (bs : List Bid) → walked r i j bs ≤ total bs
unfolding walked total
walked_le r i j [] = omega arith
walked_le r i j (b ∷ bs) = omega (arith, go (walked_before r i j b), walked_le r i (suc j) bs)
  where
    go : (t : Bool) → cond t b.amount 0 ≤ b.amount
    go true = omega arith
    go false = omega arith

-- the amount of a bid walked by its place too, or only by its rate
by_place : (r i j : ℕ) (b : Bid) → j < i → cond (walked_before r i j b) b.amount 0 ≡ cond (ltb r b.rate) b.amount 0 + cond (eqb b.rate r) b.amount 0
by_place r i j b h = rw (lt-ltb j i h) (go (ltb r b.rate) (eqb b.rate r) refl refl)
  where
    go : (s t : Bool) → ltb r b.rate ≡ s → eqb b.rate r ≡ t → cond (s || (t && true)) b.amount 0 ≡ cond s b.amount 0 + cond t b.amount 0
    go true true d e = absurd (omega (arith, ltb-true r b.rate d, eqb-true b.rate r e))
    go true false d e = omega arith
    go false true d e = omega arith
    go false false d e = omega arith

by_rate : (r i j : ℕ) (b : Bid) → i ≤ j → cond (walked_before r i j b) b.amount 0 ≡ cond (ltb r b.rate) b.amount 0
by_rate r i j b h = rw (le-ltb j i h) (go (ltb r b.rate) (eqb b.rate r))
  where
    go : (s t : Bool) → cond (s || (t && false)) b.amount 0 ≡ cond s b.amount 0
    go true t = refl
    go false true = refl
    go false false = refl

-- a place with a rate is filled, and one that is not filled has no amount
rate_fills : (b : Bid) → 0 < b.rate → filled b ≡ true
unfolding filled
rate_fills b h = rw (ne_eqb b.rate 0 (λ e. omega arith)) refl

unfilled : (b : Bid) → filled b ≡ false → b.amount ≡ 0
unfolding filled
unfilled b h = go (eqb b.rate 0) (eqb b.amount 0) refl h
  where
    go : (s t : Bool) → eqb b.amount 0 ≡ t → not (s && t) ≡ false → b.amount ≡ 0
    go true true e k = eqb-true b.amount 0 e
    go true false e k = absurd (false≢true (sym k))
    go false t e k = absurd (false≢true (sym k))

-- in LP, at a rate within the limit rate: no bid out is better, nor has an amount at it
module _ (o : Offer) (r : ℕ) (lp : o.side ≡ Lp) (within : o.limit ≤ r) where
  in_at : (b : Bid) → r ≤ b.rate → is_in o b ≡ filled b
  unfolding is_in better_rate
  in_at b h =
      ap (λ (d : Side). filled b && not (better_rate d o.limit b.rate)) lp
      ∙ ap (λ (t : Bool). filled b && not t) (le-ltb b.rate o.limit (omega arith))
      ∙ and-true (filled b)

  better_plain : (b : Bid) → is_better o r b ≡ ltb r b.rate
  unfolding is_better better_rate
  better_plain b = ap (λ (d : Side). is_in o b && better_rate d b.rate r) lp ∙ go (ltb r b.rate) refl
    where
      go : (t : Bool) → ltb r b.rate ≡ t → is_in o b && t ≡ t
      go true e = ap (λ (t : Bool). t && true) (in_at b (omega (arith, ltb-true r b.rate e)) ∙ rate_fills b (omega (arith, ltb-true r b.rate e)))
      go false e = and-false (is_in o b)

  equal_plain : (b : Bid) → cond (is_equal o r b) b.amount 0 ≡ cond (eqb b.rate r) b.amount 0
  unfolding is_equal
  equal_plain b = go (eqb b.rate r) refl
    where
      amount : (t : Bool) → filled b ≡ t → cond (t && true) b.amount 0 ≡ b.amount
      amount true e = refl
      amount false e = sym (unfilled b e)

      go : (t : Bool) → eqb b.rate r ≡ t → cond (is_in o b && t) b.amount 0 ≡ cond t b.amount 0
      go true e = ap (λ (t : Bool). cond (t && true) b.amount 0) (in_at b (omega (arith, eqb-true b.rate r e))) ∙ amount (filled b) refl
      go false e = ap (λ (t : Bool). cond t b.amount 0) (and-false (is_in o b))

  from_past : (i j : ℕ) (bs : List Bid) → i ≤ j → walked r i j bs ≡ total_better o bs r
  unfolding walked total_better keep total
  from_past i j [] h = refl
  from_past i j (b ∷ bs) h =
      omega (
        arith,
        by_rate r i j b h,
        ap {B = ℕ} (λ (t : Bool). cond t b.amount 0) (better_plain b),
        total_cons (is_better o r) b bs,
        from_past i (suc j) bs (omega arith),
      )

  walked_from : (i j n : ℕ) (bs : List Bid) → i ≡ j + n → walked r i j bs ≡ total_better o bs r + total_equal o (take n bs) r
  unfolding walked total_better total_equal keep total
  walked_from i j zero bs h = omega (arith, from_past i j bs (omega arith))
  walked_from i j (suc n) [] h = refl
  walked_from i j (suc n) (b ∷ bs) h =
      omega (
        arith,
        by_place r i j b (omega arith),
        ap {B = ℕ} (λ (t : Bool). cond t b.amount 0) (better_plain b),
        equal_plain b,
        total_cons (is_better o r) b bs,
        total_cons (is_equal o r) b (take n bs),
        walked_from i (suc j) n bs (omega arith),
      )

within-limit : (o : Offer) (b : Bid) → o.side ≡ Lp → is_in o b ≡ true → o.limit ≤ b.rate
unfolding is_in better_rate
within-limit o b lp inside =
    ltb-false b.rate o.limit
    (not-true (ltb b.rate o.limit)
    (sym (ap (λ (d : Side). not (better_rate d o.limit b.rate)) lp) ∙ and_right (filled b) (not (better_rate o.side o.limit b.rate)) inside))

-- what a cap leaves to a bid in
pub left_is : (o : Offer) (cap : ℕ) (bs : List Bid) (i : ℕ) (b : Bid) → o.side ≡ Lp → is_in o b ≡ true → cap - walked b.rate i 0 bs ≡ left_of_cap o cap bs (take i bs) b
unfolding left_of_cap
left_is o cap bs i b lp inside = ap (λ (n : ℕ). cap - n) (walked_from o b.rate lp (within-limit o b lp inside) i 0 i bs (omega arith))
