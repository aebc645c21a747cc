-- Rates and amounts side by side: how many bids they are, the bid at an index, their parts, a bid stored, and their total. Assumes nothing.
use mathlib.Core.Path.{◌≡◌, refl, sym, ap, ◌∙◌}
use mathlib.Core.List.{List, [], ◌∷◌, Memᴰ}
use Prim.Native.Nat.{ℕ, zero, suc, ◌+◌, ◌<◌}
use native.Mathlib.Numerals.{add-one}
use native.Mathlib.Omega.{arith}
use lib.ListN.{length, take, drop, get_or, set}
use lib.Seq.{drop-cons}
use Rattle.rules.specs.Allotment.{Bid, no_bid, total, sum}
use Rattle.bids.specs.Columns.{bids_of}

pub length_of_lem : (rates amounts : List ℕ) → length rates ≡ length amounts → length (bids_of rates amounts) ≡ length amounts
unfolding bids_of
length_of_lem [] [] h = refl
length_of_lem [] (a ∷ amounts) h = absurd (omega arith)
length_of_lem (r ∷ rates) [] h = absurd (omega arith)
length_of_lem (r ∷ rates) (a ∷ amounts) h = ap suc (length_of_lem rates amounts (omega arith))

-- the rate and the amount at an index
abbrev pub bid_in : List ℕ → List ℕ → ℕ → Bid
bid_in rates amounts i = record { rate = get_or rates i 0; amount = get_or amounts i 0 }

pub bid_of_lem : (rates amounts : List ℕ) (i : ℕ) → length rates ≡ length amounts → get_or (bids_of rates amounts) i no_bid ≡ bid_in rates amounts i
unfolding bids_of
bid_of_lem [] [] i h = refl
bid_of_lem [] (a ∷ amounts) i h = absurd (omega arith)
bid_of_lem (r ∷ rates) [] i h = absurd (omega arith)
bid_of_lem (r ∷ rates) (a ∷ amounts) zero h = refl
bid_of_lem (r ∷ rates) (a ∷ amounts) (suc i) h = bid_of_lem rates amounts i (omega arith)

-- the bid at an index is one of the bids
pub member_at : (bs : List Bid) (i : ℕ) → i < length bs → Memᴰ (get_or bs i no_bid) bs
member_at [] i h = absurd (omega arith)
member_at (b ∷ bs) zero h = Memᴰ.head refl
member_at (b ∷ bs) (suc i) h = Memᴰ.tail (member_at bs i (omega arith))

-- the bids from an index on: the one at it, and those after it
pub drop-bids : (rates amounts : List ℕ) (i : ℕ) → length rates ≡ length amounts → i < length amounts
    → drop i (bids_of rates amounts) ≡ bid_in rates amounts i ∷ drop (i + 1) (bids_of rates amounts)
drop-bids rates amounts i e h =
    let bs = bids_of rates amounts in
    drop-cons bs i no_bid (omega (arith, length_of_lem rates amounts e))
    ∙ ap (λ (b : Bid). b ∷ drop (suc i) bs) (bid_of_lem rates amounts i e)
    ∙ ap (λ (n : ℕ). bid_in rates amounts i ∷ drop n bs) (sym (add-one i))

pub drop-at : (bs : List Bid) (i : ℕ) → i < length bs → drop i bs ≡ get_or bs i no_bid ∷ drop (i + 1) bs
drop-at bs i h = drop-cons bs i no_bid h ∙ ap (λ (n : ℕ). get_or bs i no_bid ∷ drop n bs) (sym (add-one i))

-- parts of both are a part of the bids
pub take_of : (n : ℕ) (rates amounts : List ℕ) → bids_of (take n rates) (take n amounts) ≡ take n (bids_of rates amounts)
unfolding bids_of
take_of zero rates amounts = refl
take_of (suc n) [] amounts = refl
take_of (suc n) (r ∷ rates) [] = refl
take_of (suc n) (r ∷ rates) (a ∷ amounts) = ap (λ (l : List Bid). record { rate = r; amount = a } ∷ l) (take_of n rates amounts)

pub drop_of : (n : ℕ) (rates amounts : List ℕ) → length rates ≡ length amounts → bids_of (drop n rates) (drop n amounts) ≡ drop n (bids_of rates amounts)
unfolding bids_of
drop_of zero rates amounts h = refl
drop_of (suc n) [] amounts h = refl
drop_of (suc n) (r ∷ rates) [] h = absurd (omega arith)
drop_of (suc n) (r ∷ rates) (a ∷ amounts) h = drop_of n rates amounts (omega arith)

-- a rate and an amount stored at one index are a bid stored there
pub set_of : (rates amounts : List ℕ) (i r a : ℕ) → length rates ≡ length amounts
    → bids_of (set rates i r) (set amounts i a) ≡ set (bids_of rates amounts) i (record { rate = r; amount = a })
unfolding bids_of
set_of [] [] i r a h = refl
set_of [] (x ∷ amounts) i r a h = absurd (omega arith)
set_of (y ∷ rates) [] i r a h = absurd (omega arith)
set_of (y ∷ rates) (x ∷ amounts) zero r a h = refl
set_of (y ∷ rates) (x ∷ amounts) (suc i) r a h = ap (λ (l : List Bid). record { rate = y; amount = x } ∷ l) (set_of rates amounts i r a (omega arith))

pub total_of : (rates amounts : List ℕ) → length rates ≡ length amounts → total (bids_of rates amounts) ≡ sum amounts
unfolding bids_of total sum
total_of [] [] h = refl
total_of [] (a ∷ amounts) h = absurd (omega arith)
total_of (r ∷ rates) [] h = absurd (omega arith)
total_of (r ∷ rates) (a ∷ amounts) h = ap (λ (n : ℕ). a + n) (total_of rates amounts (omega arith))
