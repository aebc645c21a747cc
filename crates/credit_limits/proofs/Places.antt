-- The cut book place by place: what a cut does to each bid. Assumes nothing.
use mathlib.Core.Path.{◌≡◌, refl, sym, ◌∙◌, subst}
use mathlib.Core.Bool.{Bool, true, false, cond, false≢true}
use mathlib.Core.List.Memᴰ
use mathlib.Core.List.{List, [], ◌∷◌, ◌++◌, Memᴰ}
use Prim.Native.Nat.{ℕ, zero, suc, ◌≤◌, ◌<◌}
use native.Mathlib.Omega.{arith}
use lib.Dec.{ltb}
use lib.ListN.{get_or, take, drop, take-append-drop}
use borrow.Author.Tests.{ltb-true}
use Rattle.rules.specs.Allotment.{Bid, no_bid, filled, Offer, is_in, total}
use Rattle.rules.specs.Cuts.{is_capped, cut_to, cut_above, left_of_cap, cut_bid, cut_from, cut_bids, cut_book}
use Rattle.rules.proofs.Cuts.{length-book}
use Rattle.credit_limits.specs.Theorems.{OnlyCut, ZeroDropsOut, OutStay, NoMoreInAll}

-- two lists of which each place is related
data Each (R : Bid → Bid → Type 0) : List Bid → List Bid → Type 0 where
  none : Each R [] []
  next : {b c : Bid} {bs cs : List Bid} → R b c → Each R bs cs → Each R (b ∷ bs) (c ∷ cs)

module _ (R : Bid → Bid → Type 0) where
  each_append : {bs cs bs' cs' : List Bid} → Each R bs cs → Each R bs' cs' → Each R (bs ++ bs') (cs ++ cs')
  each_append none q = q
  each_append (next r p) q = next r (each_append p q)

  each_same : ((b : Bid) → R b b) → (bs : List Bid) → Each R bs bs
  each_same h [] = none
  each_same h (b ∷ bs) = next (h b) (each_same h bs)

  each_at : R no_bid no_bid → {bs cs : List Bid} → Each R bs cs → (k : ℕ) → R (get_or bs k no_bid) (get_or cs k no_bid)
  each_at h none k = h
  each_at h (next r p) zero = r
  each_at h (next r p) (suc k) = each_at h p k

  each_mem : {bs cs : List Bid} → Each R bs cs → {c : Bid} → Memᴰ c cs → (b : Bid) × Memᴰ b bs × R b c
  each_mem none m = absurd (Memᴰ.not-nil m)
  each_mem (next {b = b} r p) (Memᴰ.head e) = (b, Memᴰ.head refl, subst (R b) (sym e) r)
  each_mem (next r p) (Memᴰ.tail m) = let w = each_mem p m in (w.0, Memᴰ.tail w.1, w.2)

-- what a cut leaves of a bid
record Cut (o : Offer) (b c : Bid) : Type 0 where
  amount : c.amount ≤ b.amount
  rate : 0 < c.amount → c.rate ≡ b.rate
  out : is_in o b ≡ false → c ≡ b
  gone : 0 < b.amount → c.amount ≡ 0 → c ≡ no_bid
  above : (filled b ≡ true → 0 < b.amount) → filled c ≡ true → 0 < c.amount

cut_same : (o : Offer) (b : Bid) → Cut o b b
cut_same o b = record { amount = omega arith; rate = λ h. refl; out = λ h. refl; gone = λ h k. absurd (omega arith); above = λ h. h }

none_filled : filled no_bid ≡ false
unfolding filled
none_filled = refl

cut_to_lem : (o : Offer) (n : ℕ) (b : Bid) → n < b.amount → is_in o b ≡ true → Cut o b (cut_to n b)
unfolding cut_to
cut_to_lem o zero b l e =
    record {
      amount = omega arith;
      rate = λ h. absurd (omega arith);
      out = λ h. absurd (false≢true (sym h ∙ e));
      gone = λ h k. refl;
      above = λ h k. absurd (false≢true (sym none_filled ∙ k));
    }
cut_to_lem o (suc n) b l e =
    record {
      amount = omega arith;
      rate = λ h. refl;
      out = λ h. absurd (false≢true (sym h ∙ e));
      gone = λ h k. absurd (omega arith);
      above = λ h k. omega arith;
    }

cut_above_lem : (o : Offer) (n : ℕ) (b : Bid) → is_in o b ≡ true → Cut o b (cut_above n b)
unfolding cut_above
cut_above_lem o n b e = go (ltb n b.amount) refl
  where
    go : (t : Bool) → ltb n b.amount ≡ t → Cut o b (cond t (cut_to n b) b)
    go true l = cut_to_lem o n b (ltb-true n b.amount l) e
    go false l = cut_same o b

module _ (o : Offer) (cap : ℕ) (bs : List Bid) where
  cut_bid_lem : (before : List Bid) (b : Bid) → Cut o b (cut_bid o cap bs before b)
  unfolding cut_bid
  cut_bid_lem before b = go (is_in o b) refl
    where
      go : (t : Bool) → is_in o b ≡ t → Cut o b (cond t (cut_above (left_of_cap o cap bs before b) b) b)
      go true e = cut_above_lem o (left_of_cap o cap bs before b) b e
      go false e = cut_same o b

  cut_from_lem : (before rest : List Bid) → Each (Cut o) rest (cut_from o cap bs before rest)
  unfolding cut_from
  cut_from_lem before [] = none
  cut_from_lem before (b ∷ rest) = next (cut_bid_lem before b) (cut_from_lem (before ++ (b ∷ [])) rest)

  cut_bids_lem : Each (Cut o) bs (cut_bids o cap bs)
  unfolding cut_bids
  cut_bids_lem = go (is_capped o cap)
    where
      go : (t : Bool) → Each (Cut o) bs (cond t (cut_from o cap bs [] bs) bs)
      go true = cut_from_lem [] bs
      go false = each_same (Cut o) (cut_same o) bs

cut_book_lem : (o : Offer) (limits : List ℕ) (bs : List Bid) → Each (Cut o) bs (cut_book o limits bs)
unfolding cut_book
cut_book_lem o [] bs = each_same (Cut o) (cut_same o) bs
cut_book_lem o (cap ∷ limits) bs =
    subst (λ (xs : List Bid). Each (Cut o) xs (cut_bids o cap (take 10 bs) ++ cut_book o limits (drop 10 bs))) (take-append-drop 10 bs)
    (each_append (Cut o) (cut_bids_lem o cap (take 10 bs)) (cut_book_lem o limits (drop 10 bs)))

cut_at : (o : Offer) (limits : List ℕ) (bs : List Bid) (k : ℕ) → Cut o (get_or bs k no_bid) (get_or (cut_book o limits bs) k no_bid)
cut_at o limits bs k = each_at (Cut o) (cut_same o no_bid) (cut_book_lem o limits bs) k

pub only_cut : OnlyCut
only_cut o limits bs k = ((cut_at o limits bs k).amount, (cut_at o limits bs k).rate, length-book o limits bs)

pub out_stay : OutStay
out_stay o limits bs k h = (cut_at o limits bs k).out h

pub zero_drops_out : ZeroDropsOut
zero_drops_out o limits bs k positive zero_left = (cut_at o limits bs k).gone positive zero_left

-- bids above zero stay so, or drop out
pub above_book : (o : Offer) (limits : List ℕ) (bs : List Bid)
    → ((b : Bid) → Memᴰ b bs → filled b ≡ true → 0 < b.amount)
    → (c : Bid) → Memᴰ c (cut_book o limits bs) → filled c ≡ true → 0 < c.amount
above_book o limits bs h c m f = let w = each_mem (Cut o) (cut_book_lem o limits bs) m in w.2.above (h w.0 w.1) f

cut_total : (o : Offer) {bs cs : List Bid} → Each (Cut o) bs cs → total cs ≤ total bs
unfolding total
cut_total o none = omega arith
cut_total o (next r p) = omega (arith, r.amount, cut_total o p)

pub no_more_in_all : NoMoreInAll
no_more_in_all o limits bs = cut_total o (cut_book_lem o limits bs)
