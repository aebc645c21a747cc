-- Totals of the bids that pass a test: what is added up and what is left are the whole, and within the total of all. Assumes nothing.
use mathlib.Core.Path.{◌≡◌, ap}
use mathlib.Core.Bool.{Bool, true, false, cond}
use mathlib.Core.List.{List, [], ◌∷◌}
use Prim.Native.Nat.{ℕ, ◌+◌, ◌≤◌, ◌<◌}
use native.Mathlib.Omega.{arith}
use lib.ListN.{length, drop, get_or, drop_of_length-le}
use Rattle.rules.specs.Allotment.{Bid, no_bid, Offer, is_better, is_equal, keep, total, total_better, total_equal}
use Rattle.rules.proofs.Kept.{total_cons, total_split}
use Rattle.rules.proofs.Rates.{not_worse, split_rate}
use Rattle.bids.specs.declared.Bid as declared
use Rattle.bids.specs.Columns.{viewed}
use Rattle.bids.proofs.SideBySide.{drop-at}

pub keep_le : (p : Bid → Bool) (bs : List Bid) → total (keep p bs) ≤ total bs
unfolding total keep
keep_le p [] = omega arith
keep_le p (b ∷ bs) = omega (arith, total_cons p b bs, keep_le p bs, go (p b))
  where
    go : (t : Bool) → cond t b.amount 0 ≤ b.amount
    go true = omega arith
    go false = omega arith

-- the totals at better rates and at one are within it
pub totals_le : (o : Offer) (bs : List Bid) (r : ℕ) → total_better o bs r + total_equal o bs r ≤ total bs
unfolding total_better total_equal
totals_le o bs r = omega (arith, total_split (not_worse o r) (is_better o r) (is_equal o r) (split_rate o r) bs, keep_le (not_worse o r) bs)

-- a sum over the bids before i that pass a test: with the total of the others it makes the whole
abbrev pub AddedUp : (Bid → Bool) → List Bid → ℕ → ℕ → Type 0
AddedUp p bs i n = n + total (keep p (drop i bs)) ≡ total (keep p bs)

-- no such sum is above the total of all
pub added_le : (p : Bid → Bool) (bs : List Bid) (i n : ℕ) → AddedUp p bs i n → n ≤ total bs
added_le p bs i n h = omega (arith, keep_le p bs)

-- the bid at i added, where it is told whether it passes
pub added_more : (p : Bid → Bool) (bs : List Bid) (i n a : ℕ) (b : declared.Bid) (told : Bool) → i < length bs → viewed b ≡ get_or bs i no_bid
    → told ≡ p (viewed b) → a ≡ cond told b.amount.0 0 → AddedUp p bs i n → AddedUp p bs (i + 1) (n + a)
added_more p bs i n a b told h is t g k =
    omega (
      arith,
      k,
      g,
      ap (λ (u : Bool). cond u b.amount.0 0) t,
      ap (λ (x : Bid). cond (p x) x.amount 0) is,
      ap (λ (l : List Bid). total (keep p l)) (drop-at bs i h),
      total_cons p (get_or bs i no_bid) (drop (i + 1) bs),
    )

-- at the end it is the whole
pub added_all : (p : Bid → Bool) (bs : List Bid) (i n : ℕ) → length bs ≤ i → AddedUp p bs i n → n ≡ total (keep p bs)
unfolding total keep
added_all p bs i n h k = omega (arith, ap (λ (l : List Bid). total (keep p l)) (drop_of_length-le bs h))
