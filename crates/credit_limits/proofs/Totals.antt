-- The totals of one counterparty's cut bids: at better rates, and of all bids in, the smaller of the cap and the total before. Assumes nothing.
use mathlib.Core.Path.{◌≡◌, refl, sym, ◌∙◌, ap}
use mathlib.Core.Bool.{Bool, true, false, not, cond, ◌&&◌, and-true}
use mathlib.Core.List.Memᴰ
use mathlib.Core.List.{List, [], ◌∷◌, ◌++◌}
use Prim.Native.Nat.{ℕ, zero, suc, ◌+◌, ◌-◌, ◌<◌, min}
use native.Mathlib.Omega.{arith}
use lib.Dec.{ltb}
use lib.ListN.{take, drop}
use borrow.Author.Tests.{ltb-true, ltb-false}
use Rattle.laws.proofs.Tests.{and_right}
use Rattle.rules.specs.Allotment.{Bid, no_bid, filled, Offer, better_rate, is_in, is_better, is_equal, keep, total, total_better, total_equal, total_in}
use Rattle.rules.specs.Cuts.{is_capped, cut_to, cut_above, left_of_cap, cut_bid, cut_from, cut_bids, cut_book}
use Rattle.rules.proofs.Kept.{Agree, keep_agree, Split, total_cons, total_split}
use Rattle.rules.proofs.Filled.{filled_above}
use Rattle.rules.proofs.Rates.{not_worse, split_rate}
use Rattle.rules.proofs.Sum.{equal-rate}
use Rattle.rules.proofs.ByRates.{never, at_better, of_all_in}
use Rattle.credit_limits.specs.Theorems.{BetterWithinCap, InWithinCap, within_cap, total_within_caps, InCodeByCode}
use Rattle.credit_limits.proofs.Capped.{bids_cut}

total-append : (p : Bid → Bool) (xs ys : List Bid) → total (keep p (xs ++ ys)) ≡ total (keep p xs) + total (keep p ys)
unfolding keep total
total-append p [] ys = omega arith
total-append p (x ∷ xs) ys = omega (arith, total-append p xs ys, total_cons p x (xs ++ ys), total_cons p x xs)

total-last : (p : Bid → Bool) (bs : List Bid) (b : Bid) → total (keep p (bs ++ (b ∷ []))) ≡ total (keep p bs) + cond (p b) b.amount 0
unfolding keep total
total-last p bs b = omega (arith, total-append p bs (b ∷ []), total_cons p b [])

keep_never : (bs : List Bid) → total (keep never bs) ≡ 0
unfolding keep total
keep_never [] = refl
keep_never (b ∷ bs) = keep_never bs

-- what the cap leaves, counted by a test of the uncut bids
module _ (o : Offer) (cap : ℕ) (bs : List Bid) where
  -- what is left to the places of `rest` that pass p, where `before` stand before them
  left : (Bid → Bool) → List Bid → List Bid → ℕ
  left p before [] = 0
  left p before (b ∷ rest) = cond (p b) (min b.amount (left_of_cap o cap bs before b)) 0 + left p (before ++ (b ∷ [])) rest

  left_split : (p q r : Bid → Bool) → Split p q r → (before rest : List Bid) → left p before rest ≡ left q before rest + left r before rest
  unfolding left
  left_split p q r s before [] = refl
  left_split p q r s before (b ∷ rest) =
      omega (arith, left_split p q r s (before ++ (b ∷ [])) rest, s b (min b.amount (left_of_cap o cap bs before b)))

  left_agree : (p q : Bid → Bool) (before rest : List Bid) → Agree p q rest → left p before rest ≡ left q before rest
  unfolding left
  left_agree p q before [] h = refl
  left_agree p q before (b ∷ rest) h =
      rw (h b (Memᴰ.head refl), left_agree p q (before ++ (b ∷ [])) rest (λ c k. h c (Memᴰ.tail k)))

  left_never : (before rest : List Bid) → left never before rest ≡ 0
  unfolding left
  left_never before [] = refl
  left_never before (b ∷ rest) = omega (arith, left_never (before ++ (b ∷ [])) rest)

  left_at : (r : ℕ) (before : List Bid) (b : Bid)
      → is_equal o r b ≡ true
      → left_of_cap o cap bs before b ≡ cap - (total_better o bs r + total (keep (is_equal o r) before))
  unfolding left_of_cap total_equal
  left_at r before b e = ap (λ (s : ℕ). cap - (total_better o bs s + total (keep (is_equal o s) before))) (equal-rate o bs r b e)

  -- at one rate, after the better ones and the places before
  left-equal : (r : ℕ) (before rest : List Bid)
      → left (is_equal o r) before rest + min cap (total_better o bs r + total (keep (is_equal o r) before))
      ≡ min cap (total_better o bs r + total (keep (is_equal o r) before) + total (keep (is_equal o r) rest))
  unfolding left keep total
  left-equal r before [] = omega arith
  left-equal r before (b ∷ rest) = go (is_equal o r b) refl (left-equal r (before ++ (b ∷ [])) rest)
    where
      go : (t : Bool)
          → is_equal o r b ≡ t
          → left (is_equal o r) (before ++ (b ∷ [])) rest + min cap (total_better o bs r + total (keep (is_equal o r) (before ++ (b ∷ []))))
          ≡ min cap (total_better o bs r + total (keep (is_equal o r) (before ++ (b ∷ []))) + total (keep (is_equal o r) rest))
          → cond t (min b.amount (left_of_cap o cap bs before b)) 0 + left (is_equal o r) (before ++ (b ∷ [])) rest
          + min cap (total_better o bs r + total (keep (is_equal o r) before))
          ≡ min cap (total_better o bs r + total (keep (is_equal o r) before) + total (cond t (b ∷ keep (is_equal o r) rest) (keep (is_equal o r) rest)))
      go true e ih = omega (arith, left_at r before b e, rw e at (total-last (is_equal o r) before b))
      go false e ih = omega (arith, rw e at (total-last (is_equal o r) before b))

  -- the places that pass p are left the smaller of the cap and their total
  Capped : (Bid → Bool) → Type 0
  Capped p = left p [] bs ≡ min cap (total (keep p bs))

  capped_agree : (p q : Bid → Bool) → Agree p q bs → Capped q → Capped p
  unfolding Capped
  capped_agree p q h s = left_agree p q [] bs h ∙ s ∙ ap (λ l. min cap (total l)) (sym (keep_agree p q bs h))

  capped_never : Capped never
  unfolding Capped
  capped_never = omega (arith, left_never [] bs, keep_never bs)

  capped_with : (r : ℕ) → Capped (is_better o r) → Capped (not_worse o r)
  unfolding Capped total_better keep total
  capped_with r h =
      let p = not_worse o r in let q = is_better o r in let e = is_equal o r in
      omega (arith, left-equal r [] bs, left_split p q e (split_rate o r) [] bs, total_split p q e (split_rate o r) bs)

-- the cut bids that are in and pass a test of rates
module _ (o : Offer) (f : ℕ → Bool) where
  in_and : Bid → Bool
  in_and b = is_in o b && f b.rate

  in_and_lem : (b : Bid) (t : Bool) → is_in o b ≡ t → in_and b ≡ t && f b.rate
  unfolding in_and
  in_and_lem b t h = ap (λ (s : Bool). s && f b.rate) h

  still_in : (n : ℕ) (b : Bid) → is_in o b ≡ true → is_in o (record { rate = b.rate; amount = suc n }) ≡ true
  unfolding is_in
  still_in n b h =
      ap (λ (t : Bool). t && not (better_rate o.side o.limit b.rate)) (filled_above (record { rate = b.rate; amount = suc n }) (omega arith))
      ∙ and_right (filled b) (not (better_rate o.side o.limit b.rate)) h

  none_in : in_and no_bid ≡ false
  unfolding in_and is_in filled
  none_in = refl

  same-amount : (t : Bool) (x y : ℕ) → x ≡ y → cond t x 0 ≡ cond t y 0
  same-amount t x y e = ap (λ (z : ℕ). cond t z 0) e

  no_amount_lem : (t : Bool) → ◌≡◌ {A = ℕ} 0 (cond t 0 0)
  no_amount_lem true = refl
  no_amount_lem false = refl

  to_counted : (n : ℕ) (b : Bid)
      → is_in o b ≡ true
      → n < b.amount
      → cond (in_and (cut_to n b)) (cut_to n b).amount 0 ≡ cond (f b.rate) (min b.amount n) 0
  unfolding cut_to
  to_counted zero b h l =
      ap (λ (t : Bool). cond t 0 0) none_in ∙ no_amount_lem (f b.rate) ∙ same-amount (f b.rate) 0 (min b.amount 0) (omega arith)
  to_counted (suc n) b h l =
      ap (λ (t : Bool). cond t (suc n) 0) (in_and_lem (record { rate = b.rate; amount = suc n }) true (still_in n b h))
      ∙ same-amount (f b.rate) (suc n) (min b.amount (suc n)) (omega arith)

  above_counted : (n : ℕ) (b : Bid)
      → is_in o b ≡ true
      → cond (in_and (cut_above n b)) (cut_above n b).amount 0 ≡ cond (f b.rate) (min b.amount n) 0
  unfolding cut_above
  above_counted n b h = go (ltb n b.amount) refl
    where
      go : (t : Bool)
          → ltb n b.amount ≡ t
          → cond (in_and (cond t (cut_to n b) b)) (cond t (cut_to n b) b).amount 0 ≡ cond (f b.rate) (min b.amount n) 0
      go true e = to_counted n b h (ltb-true n b.amount e)
      go false e =
          ap (λ (t : Bool). cond t b.amount 0) (in_and_lem b true h)
          ∙ same-amount (f b.rate) b.amount (min b.amount n) (omega (arith, ltb-false n b.amount e))

  module _ (cap : ℕ) (bs : List Bid) where
    bid-counted : (before : List Bid) (b : Bid)
        → cond (in_and (cut_bid o cap bs before b)) (cut_bid o cap bs before b).amount 0
        ≡ cond (in_and b) (min b.amount (left_of_cap o cap bs before b)) 0
    unfolding cut_bid
    bid-counted before b = go (is_in o b) refl
      where
        here : ℕ
        here = left_of_cap o cap bs before b

        go : (t : Bool)
            → is_in o b ≡ t
            → cond (in_and (cond t (cut_above here b) b)) (cond t (cut_above here b) b).amount 0 ≡ cond (in_and b) (min b.amount here) 0
        go true e = above_counted here b e ∙ ap (λ (t : Bool). cond t (min b.amount here) 0) (sym (in_and_lem b true e))
        go false e =
            ap (λ (t : Bool). cond t b.amount 0) (in_and_lem b false e)
            ∙ ap (λ (t : Bool). cond t (min b.amount here) 0) (sym (in_and_lem b false e))

    total-counted : (before rest : List Bid) → total (keep in_and (cut_from o cap bs before rest)) ≡ left o cap bs in_and before rest
    unfolding cut_from left keep total
    total-counted before [] = refl
    total-counted before (b ∷ rest) =
        omega (
          arith,
          total_cons in_and (cut_bid o cap bs before b) (cut_from o cap bs (before ++ (b ∷ [])) rest),
          bid-counted before b,
          total-counted (before ++ (b ∷ [])) rest,
        )

module _ (o : Offer) (cap : ℕ) (bs : List Bid) where
  better_cut : (r : ℕ) → total_better o (cut_from o cap bs [] bs) r ≡ min cap (total_better o bs r)
  unfolding total_better is_better in_and Capped
  better_cut r =
      total-counted o (λ s. better_rate o.side s r) cap bs [] bs
      ∙ at_better o bs (Capped o cap bs) (capped_agree o cap bs) (capped_never o cap bs) (capped_with o cap bs) r

  in_as_and : (xs : List Bid) → Agree (is_in o) (in_and o (λ s. true)) xs
  unfolding in_and
  in_as_and xs b m = sym (and-true (is_in o b))

  in_cut : total_in o (cut_from o cap bs [] bs) ≡ min cap (total_in o bs)
  unfolding total_in Capped
  in_cut =
      ap total (keep_agree (is_in o) (in_and o (λ s. true)) (cut_from o cap bs [] bs) (in_as_and (cut_from o cap bs [] bs)))
      ∙ total-counted o (λ s. true) cap bs [] bs
      ∙ sym (left_agree o cap bs (is_in o) (in_and o (λ s. true)) [] bs (in_as_and bs))
      ∙ of_all_in o bs (Capped o cap bs) (capped_agree o cap bs) (capped_never o cap bs) (capped_with o cap bs)

pub better_within_cap : BetterWithinCap
better_within_cap o cap bs r h = ap (λ (l : List Bid). total_better o l r) (bids_cut o cap bs h) ∙ better_cut o cap bs r

pub in_within_cap : InWithinCap
in_within_cap o cap bs h = ap (total_in o) (bids_cut o cap bs h) ∙ in_cut o cap bs

-- code by code

in_append : (o : Offer) (xs ys : List Bid) → total_in o (xs ++ ys) ≡ total_in o xs + total_in o ys
unfolding total_in
in_append o xs ys = total-append (is_in o) xs ys

in_one_code : (o : Offer) (cap : ℕ) (bs : List Bid) → total_in o (cut_bids o cap bs) ≡ within_cap o cap (total_in o bs)
unfolding cut_bids within_cap
in_one_code o cap bs = go (is_capped o cap)
  where
    go : (t : Bool) → total_in o (cond t (cut_from o cap bs [] bs) bs) ≡ cond t (min cap (total_in o bs)) (total_in o bs)
    go true = in_cut o cap bs
    go false = refl

pub in_code_by_code : InCodeByCode
unfolding cut_book total_within_caps
in_code_by_code o [] bs = refl
in_code_by_code o (cap ∷ limits) bs =
    omega (
      arith,
      in_append o (cut_bids o cap (take 10 bs)) (cut_book o limits (drop 10 bs)),
      in_one_code o cap (take 10 bs),
      in_code_by_code o limits (drop 10 bs),
    )
