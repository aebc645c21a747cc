-- The cut bids are as many as the bids, and empty places after them stay empty. Assumes nothing.
use mathlib.Core.Path.{◌≡◌, refl, sym, ap, ap₂, ◌∙◌}
use mathlib.Core.Bool.{Bool, true, false, cond}
use mathlib.Core.List.{List, [], ◌∷◌, ◌++◌, append_assoc}
use Prim.Native.Nat.{ℕ, zero, suc, ◌+◌, ◌-◌, min}
use native.Mathlib.Omega.{arith}
use lib.ListN.{length, take, drop, replicate, length-append, take-append-drop, replicate-append-replicate}
use Rattle.rules.specs.Allotment.{Bid, no_bid, filled, Offer, is_in, total_equal}
use Rattle.rules.specs.Cuts.{is_capped, cut_above, left_of_cap, cut_bid, cut_from, cut_bids, cut_book}
use Rattle.rules.proofs.Absent.{better}

-- as many cut bids as bids
length_from : (o : Offer) (cap : ℕ) (bs before rest : List Bid) → length (cut_from o cap bs before rest) ≡ length rest
unfolding cut_from
length_from o cap bs before [] = refl
length_from o cap bs before (b ∷ rest) = ap suc (length_from o cap bs (before ++ (b ∷ [])) rest)

pub length-bids : (o : Offer) (cap : ℕ) (bs : List Bid) → length (cut_bids o cap bs) ≡ length bs
unfolding cut_bids
length-bids o cap bs = go (is_capped o cap)
  where
    go : (t : Bool) → length (cond t (cut_from o cap bs [] bs) bs) ≡ length bs
    go true = length_from o cap bs [] bs
    go false = refl

pub length-book : (o : Offer) (limits : List ℕ) (bs : List Bid) → length (cut_book o limits bs) ≡ length bs
unfolding cut_book
length-book o [] bs = refl
length-book o (cap ∷ limits) bs =
    length-append (cut_bids o cap (take 10 bs)) (cut_book o limits (drop 10 bs))
    ∙ ap₂ (λ (m n : ℕ). m + n) (length-bids o cap (take 10 bs)) (length-book o limits (drop 10 bs))
    ∙ sym (length-append (take 10 bs) (drop 10 bs))
    ∙ ap length (take-append-drop 10 bs)

abbrev empty : ℕ → List Bid
empty k = replicate k no_bid

-- empty places after the bids of a counterparty
module _ (o : Offer) (cap : ℕ) (bs : List Bid) (k : ℕ) where
  cut_same : (before : List Bid) (b : Bid) → cut_bid o cap (bs ++ empty k) before b ≡ cut_bid o cap bs before b
  unfolding cut_bid left_of_cap
  cut_same before b = ap (λ (n : ℕ). cond (is_in o b) (cut_above (cap - (n + total_equal o before b.rate)) b) b) (better o bs k b.rate)

  from_empty : (before : List Bid) (n : ℕ) → cut_from o cap (bs ++ empty k) before (empty n) ≡ empty n
  unfolding cut_from cut_bid is_in filled
  from_empty before zero = refl
  from_empty before (suc n) = ap (λ (l : List Bid). no_bid ∷ l) (from_empty (before ++ (no_bid ∷ [])) n)

  from_absent : (before rest : List Bid) → cut_from o cap (bs ++ empty k) before (rest ++ empty k) ≡ cut_from o cap bs before rest ++ empty k
  unfolding cut_from
  from_absent before [] = from_empty before k
  from_absent before (b ∷ rest) = ap₂ (λ (c : Bid) (l : List Bid). c ∷ l) (cut_same before b) (from_absent (before ++ (b ∷ [])) rest)

  bids_absent : cut_bids o cap (bs ++ empty k) ≡ cut_bids o cap bs ++ empty k
  unfolding cut_bids
  bids_absent = go (is_capped o cap)
    where
      go : (t : Bool) → cond t (cut_from o cap (bs ++ empty k) [] (bs ++ empty k)) (bs ++ empty k) ≡ cond t (cut_from o cap bs [] bs) bs ++ empty k
      go true = from_absent [] bs
      go false = refl

-- bids and empty places parted after n of them: either part ends in empty places, and none is lost
record Parted (n : ℕ) (bs : List Bid) (k : ℕ) : Type 0 where
  first : ℕ
  last : ℕ
  taken : take n (bs ++ empty k) ≡ take n bs ++ empty first
  dropped : drop n (bs ++ empty k) ≡ drop n bs ++ empty last
  joined : (f : List Bid → List Bid) → f [] ≡ [] → empty first ++ (f (drop n bs) ++ empty last) ≡ f (drop n bs) ++ empty k

take_empty : (n k : ℕ) → take n (empty k) ≡ empty (min n k)
take_empty zero k = ap empty (let h : 0 ≡ min 0 k = omega arith in h)
take_empty (suc n) zero = ap empty (let h : 0 ≡ min (suc n) 0 = omega arith in h)
take_empty (suc n) (suc k) =
    ap (λ (l : List Bid). no_bid ∷ l) (take_empty n k) ∙ ap empty (let h : suc (min n k) ≡ min (suc n) (suc k) = omega arith in h)

drop_empty : (n k : ℕ) → drop n (empty k) ≡ empty (k - n)
drop_empty zero k = ap empty (let h : k ≡ k - 0 = omega arith in h)
drop_empty (suc n) zero = ap empty (let h : 0 ≡ 0 - suc n = omega arith in h)
drop_empty (suc n) (suc k) = drop_empty n k ∙ ap empty (let h : k - n ≡ suc k - suc n = omega arith in h)

parted : (n : ℕ) (bs : List Bid) (k : ℕ) → Parted n bs k
parted zero bs k = record { first = 0; last = k; taken = refl; dropped = refl; joined = λ f e. refl }
parted (suc n) [] k =
    record {
      first = min (suc n) k;
      last = k - suc n;
      taken = take_empty (suc n) k;
      dropped = drop_empty (suc n) k;
      joined =
          λ f e. ap (λ (l : List Bid). empty (min (suc n) k) ++ (l ++ empty (k - suc n))) e
          ∙ replicate-append-replicate (min (suc n) k) (k - suc n) no_bid
          ∙ ap empty (let h : min (suc n) k + (k - suc n) ≡ k = omega arith in h)
          ∙ ap (λ (l : List Bid). l ++ empty k) (sym e);
    }
parted (suc n) (b ∷ bs) k =
    let p = parted n bs k in
    record {
      first = p.first;
      last = p.last;
      taken = ap (λ (l : List Bid). b ∷ l) p.taken;
      dropped = p.dropped;
      joined = p.joined;
    }

-- no bids, none cut
none_cut : (o : Offer) (limits : List ℕ) → cut_book o limits [] ≡ []
unfolding cut_book cut_bids cut_from
none_cut o [] = refl
none_cut o (cap ∷ limits) = go (is_capped o cap) (none_cut o limits)
  where
    go : (t : Bool) → cut_book o limits [] ≡ [] → cond t [] [] ++ cut_book o limits [] ≡ []
    go true e = e
    go false e = e

pub book_absent : (o : Offer) (limits : List ℕ) (bs : List Bid) (k : ℕ) → cut_book o limits (bs ++ replicate k no_bid) ≡ cut_book o limits bs ++ replicate k no_bid
unfolding cut_book
book_absent o [] bs k = refl
book_absent o (cap ∷ limits) bs k =
    let p = parted 10 bs k in
    let head = cut_bids o cap (take 10 bs) in
    let tail = cut_book o limits (drop 10 bs) in
    ap₂ (λ (x y : List Bid). cut_bids o cap x ++ cut_book o limits y) p.taken p.dropped
    ∙ ap₂ (λ (x y : List Bid). x ++ y) (bids_absent o cap (take 10 bs) p.first) (book_absent o limits (drop 10 bs) p.last)
    ∙ append_assoc head (empty p.first) (tail ++ empty p.last)
    ∙ ap (λ (l : List Bid). head ++ l) (p.joined (cut_book o limits) (none_cut o limits))
    ∙ sym (append_assoc head tail (empty k))
