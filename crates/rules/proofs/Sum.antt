-- The awards add up to the smaller of Q and the total of the bids in: so at one rate, given it at the better ones, and then over all numbers as
-- rates, best first. Assumes nothing.
use mathlib.Core.Path.{◌≡◌, refl, sym, ◌∙◌, ap}
use mathlib.Core.Bool.{Bool, true, false, cond}
use mathlib.Core.List.Memᴰ
use mathlib.Core.List.{List, [], ◌∷◌, ◌++◌}
use Prim.Native.Nat.{ℕ, suc, ◌+◌, ◌-◌, ◌*◌, ◌≤◌, ◌<◌, min}
use native.Mathlib.Nat.{mul-div-le, lt-mul-div-succ, le_of_mul-le-mul_left}
use native.Mathlib.Omega.{arith}
use lib.Dec.{leb, ltb, eqb}
use lib.ListN.{length}
use borrow.Author.Tests.{ltb-true, ltb-false, leb-true, leb-false, eqb-true}
use Rattle.laws.proofs.Tests.{and_left, and_right}
use Rattle.rules.specs.Allotment.{Bid, Offer, is_in, is_better, is_equal, keep, total, total_better, total_equal, share, shares, cents_left, cent, award, awards_from, awards, sum, total_in}
use Rattle.rules.proofs.Division.{share_is}
use Rattle.rules.proofs.Kept.{Agree, keep_agree, Split, total_split, length_last}
use Rattle.rules.proofs.Rates.{not_worse, split_rate}
use Rattle.rules.proofs.ByRates.{never, of_all_in}

-- one cent more, while there are cents left
cent-step : (c l : ℕ) → cent c l + min l c ≡ min l (suc c)
unfolding cent
cent-step c l = go (ltb c l) refl
  where
    go : (t : Bool) → ltb c l ≡ t → cond t 1 0 + min l c ≡ min l (suc c)
    go true e = omega (arith, ltb-true)
    go false e = omega (arith, ltb-false)

-- the shares at a rate

module _ (o : Offer) (bs : List Bid) (r : ℕ) where
  share_low : (a : ℕ) → total_equal o bs r * share o bs r a ≤ a * (o.offered - total_better o bs r)
  share_low a = rw share_is (mul-div-le (a * (o.offered - total_better o bs r)) (total_equal o bs r))

  share_high : 0 < total_equal o bs r → (a : ℕ) → a * (o.offered - total_better o bs r) < total_equal o bs r * (share o bs r a + 1)
  share_high pos a = rw share_is (lt-mul-div-succ (a * (o.offered - total_better o bs r)) pos)

  shares_low : (xs : List Bid) → total_equal o bs r * shares o bs r xs ≤ (o.offered - total_better o bs r) * total xs
  unfolding shares total
  shares_low [] = omega arith
  shares_low (b ∷ xs) = omega (arith, share_low b.amount, shares_low xs)

  shares_high : 0 < total_equal o bs r → (xs : List Bid)
      → (o.offered - total_better o bs r) * total xs ≤ total_equal o bs r * shares o bs r xs + total_equal o bs r * length xs
  unfolding shares total
  shares_high pos [] = omega arith
  shares_high pos (b ∷ xs) = omega (arith, share_high pos b.amount, shares_high pos xs)

  equal_is : total (keep (is_equal o r) bs) ≡ total_equal o bs r
  unfolding total_equal
  equal_is = refl

  -- the shares at a rate come to at most what is left for it, and fall short by at most a cent for each bid
  shares_le : 0 < total_equal o bs r → shares o bs r (keep (is_equal o r) bs) ≤ o.offered - total_better o bs r
  shares_le pos = le_of_mul-le-mul_left (omega (arith, rw equal_is at (shares_low (keep (is_equal o r) bs)))) pos

  shares_near : 0 < total_equal o bs r → o.offered - total_better o bs r ≤ shares o bs r (keep (is_equal o r) bs) + length (keep (is_equal o r) bs)
  shares_near pos = le_of_mul-le-mul_left (omega (arith, rw equal_is at (shares_high pos (keep (is_equal o r) bs)))) pos

  -- the award of a bid at this rate
  award_at_rate : List Bid → Bid → ℕ
  award_at_rate before b =
      cond (leb (total_better o bs r + total_equal o bs r) o.offered) b.amount
      (cond (leb o.offered (total_better o bs r)) 0
      (share o bs r b.amount + cent (length (keep (is_equal o r) before)) (cents_left o bs r)))

  pub equal_in : (b : Bid) → is_equal o r b ≡ true → is_in o b ≡ true
  unfolding is_equal
  equal_in b e = and_left (is_in o b) (eqb b.rate r) e

  pub equal-rate : (b : Bid) → is_equal o r b ≡ true → b.rate ≡ r
  unfolding is_equal
  equal-rate b e = eqb-true b.rate r (and_right (is_in o b) (eqb b.rate r) e)

  award-equal : (before : List Bid) (b : Bid) → is_equal o r b ≡ true → award o bs before b ≡ award_at_rate before b
  unfolding award award_at_rate
  award-equal before b e = rw (equal_in b e, equal-rate b e)

pub award_out : (o : Offer) (bs before : List Bid) (b : Bid) → is_in o b ≡ false → award o bs before b ≡ 0
unfolding award
award_out o bs before b e = rw e

-- what the places of `rest` that pass p get, where `before` stand before them
part : Offer → List Bid → (Bid → Bool) → List Bid → List Bid → ℕ
part o bs p before [] = 0
part o bs p before (b ∷ rest) = cond (p b) (award o bs before b) 0 + part o bs p (before ++ (b ∷ [])) rest

module _ (o : Offer) (bs : List Bid) where
  part_split : (p q r : Bid → Bool) → Split p q r → (before rest : List Bid)
      → part o bs p before rest ≡ part o bs q before rest + part o bs r before rest
  unfolding part
  part_split p q r s before [] = refl
  part_split p q r s before (b ∷ rest) = omega (arith, part_split p q r s (before ++ (b ∷ [])) rest, s b (award o bs before b))

  part-all : (before rest : List Bid) → sum (awards_from o bs before rest) ≡ part o bs (is_in o) before rest
  unfolding part sum awards_from
  part-all before [] = refl
  part-all before (b ∷ rest) = go (is_in o b) refl (part-all (before ++ (b ∷ [])) rest)
    where
      go : (t : Bool) → is_in o b ≡ t → sum (awards_from o bs (before ++ (b ∷ [])) rest) ≡ part o bs (is_in o) (before ++ (b ∷ [])) rest
          → award o bs before b + sum (awards_from o bs (before ++ (b ∷ [])) rest) ≡ cond t (award o bs before b) 0 + part o bs (is_in o) (before ++ (b ∷ [])) rest
      go true e ih = omega arith
      go false e ih = omega (arith, award_out o bs before b e)

  module _ (r : ℕ) where
    -- all bids at the rate get their amounts, or nothing
    part_full : leb (total_better o bs r + total_equal o bs r) o.offered ≡ true → (before rest : List Bid)
        → part o bs (is_equal o r) before rest ≡ total (keep (is_equal o r) rest)
    unfolding part total keep award_at_rate
    part_full e before [] = refl
    part_full e before (b ∷ rest) = go (is_equal o r b) refl (part_full e (before ++ (b ∷ [])) rest)
      where
        go : (t : Bool) → is_equal o r b ≡ t → part o bs (is_equal o r) (before ++ (b ∷ [])) rest ≡ total (keep (is_equal o r) rest)
            → cond t (award o bs before b) 0 + part o bs (is_equal o r) (before ++ (b ∷ [])) rest ≡ total (cond t (b ∷ keep (is_equal o r) rest) (keep (is_equal o r) rest))
        go true q ih = omega (arith, award-equal o bs r before b q ∙ full)
          where
            full : award_at_rate o bs r before b ≡ b.amount
            full = rw e
        go false q ih = omega arith

    part_none : leb (total_better o bs r + total_equal o bs r) o.offered ≡ false → leb o.offered (total_better o bs r) ≡ true → (before rest : List Bid)
        → part o bs (is_equal o r) before rest ≡ 0
    unfolding part award_at_rate
    part_none e f before [] = refl
    part_none e f before (b ∷ rest) = go (is_equal o r b) refl (part_none e f (before ++ (b ∷ [])) rest)
      where
        go : (t : Bool) → is_equal o r b ≡ t → part o bs (is_equal o r) (before ++ (b ∷ [])) rest ≡ 0
            → cond t (award o bs before b) 0 + part o bs (is_equal o r) (before ++ (b ∷ [])) rest ≡ 0
        go true q ih = omega (arith, award-equal o bs r before b q ∙ nothing)
          where
            nothing : award_at_rate o bs r before b ≡ 0
            nothing = rw (e, f)
        go false q ih = omega arith

    -- the shares, and one of the cents left to each bid until they are gone
    part-shared : leb (total_better o bs r + total_equal o bs r) o.offered ≡ false → leb o.offered (total_better o bs r) ≡ false → (before rest : List Bid)
        → part o bs (is_equal o r) before rest + min (cents_left o bs r) (length (keep (is_equal o r) before))
        ≡ shares o bs r (keep (is_equal o r) rest) + min (cents_left o bs r) (length (keep (is_equal o r) before) + length (keep (is_equal o r) rest))
    unfolding part award_at_rate shares keep
    part-shared e f before [] = omega arith
    part-shared e f before (b ∷ rest) = go (is_equal o r b) refl (part-shared e f (before ++ (b ∷ [])) rest)
      where
        go : (t : Bool) → is_equal o r b ≡ t
            → part o bs (is_equal o r) (before ++ (b ∷ [])) rest + min (cents_left o bs r) (length (keep (is_equal o r) (before ++ (b ∷ []))))
            ≡ shares o bs r (keep (is_equal o r) rest) + min (cents_left o bs r) (length (keep (is_equal o r) (before ++ (b ∷ []))) + length (keep (is_equal o r) rest))
            → cond t (award o bs before b) 0 + part o bs (is_equal o r) (before ++ (b ∷ [])) rest + min (cents_left o bs r) (length (keep (is_equal o r) before))
            ≡ shares o bs r (cond t (b ∷ keep (is_equal o r) rest) (keep (is_equal o r) rest))
            + min (cents_left o bs r) (length (keep (is_equal o r) before) + length (cond t (b ∷ keep (is_equal o r) rest) (keep (is_equal o r) rest)))
        go true q ih =
            omega (
              arith,
              award-equal o bs r before b q ∙ shared,
              cent-step (length (keep (is_equal o r) before)) (cents_left o bs r),
              rw q at (length_last (is_equal o r) before b),
            )
          where
            shared : award_at_rate o bs r before b ≡ share o bs r b.amount + cent (length (keep (is_equal o r) before)) (cents_left o bs r)
            shared = rw (e, f)
        go false q ih = omega (arith, rw q at (length_last (is_equal o r) before b))

    -- at one rate: given that better rates get the smaller of Q and B, they and this rate get the smaller of Q and B + E
    rate-sum : min o.offered (total_better o bs r) + part o bs (is_equal o r) [] bs ≡ min o.offered (total_better o bs r + total_equal o bs r)
    unfolding cents_left keep
    rate-sum = go (leb (total_better o bs r + total_equal o bs r) o.offered) (leb o.offered (total_better o bs r)) refl refl
      where
        go : (s t : Bool) → leb (total_better o bs r + total_equal o bs r) o.offered ≡ s → leb o.offered (total_better o bs r) ≡ t
            → min o.offered (total_better o bs r) + part o bs (is_equal o r) [] bs ≡ min o.offered (total_better o bs r + total_equal o bs r)
        go true t e f = omega (arith, leb-true, part_full e [] bs ∙ equal_is o bs r)
        go false true e f = omega (arith, leb-true, leb-false, part_none e f [] bs)
        go false false e f =
            let pos : 0 < total_equal o bs r = omega (arith, leb-false) in
            omega (arith, leb-false, part-shared e f [] bs, shares_le o bs r pos, shares_near o bs r pos)

  -- the bids that pass p get the smaller of Q and their total
  Sums : (Bid → Bool) → Type 0
  Sums p = part o bs p [] bs ≡ min o.offered (total (keep p bs))

  -- from better rates to those together with r
  with_rate : (r : ℕ) → Sums (is_better o r) → Sums (not_worse o r)
  unfolding Sums total_better total_equal
  with_rate r h =
      let p = not_worse o r in let q = is_better o r in let e = is_equal o r in
      omega (arith, rate-sum r, part_split p q e (split_rate o r) [] bs, total_split p q e (split_rate o r) bs)

-- tests that agree, and one that never holds

part_agree : (o : Offer) (all : List Bid) (p q : Bid → Bool) (before bs : List Bid) → Agree p q bs → part o all p before bs ≡ part o all q before bs
unfolding part
part_agree o all p q before [] h = refl
part_agree o all p q before (b ∷ bs) h = rw (h b (Memᴰ.head refl), part_agree o all p q (before ++ (b ∷ [])) bs (λ c k. h c (Memᴰ.tail k)))

keep_never : (bs : List Bid) → total (keep never bs) ≡ 0
unfolding keep total
keep_never [] = refl
keep_never (b ∷ bs) = keep_never bs

part_never : (o : Offer) (all before bs : List Bid) → part o all never before bs ≡ 0
unfolding part
part_never o all before [] = refl
part_never o all before (b ∷ bs) = omega (arith, part_never o all (before ++ (b ∷ [])) bs)

sums_agree : (o : Offer) (bs : List Bid) (p q : Bid → Bool) → Agree p q bs → Sums o bs q → Sums o bs p
unfolding Sums
sums_agree o bs p q h s = part_agree o bs p q [] bs h ∙ s ∙ ap (λ l. min o.offered (total l)) (sym (keep_agree p q bs h))

sums_never : (o : Offer) (bs : List Bid) → Sums o bs never
unfolding Sums
sums_never o bs = omega (arith, part_never o bs [] bs, keep_never bs)

sums_in : (o : Offer) (bs : List Bid) → Sums o bs (is_in o)
sums_in o bs = of_all_in o bs (Sums o bs) (sums_agree o bs) (sums_never o bs) (with_rate o bs)

pub awards-sum : (o : Offer) (bs : List Bid) → sum (awards o bs) ≡ min o.offered (total_in o bs)
unfolding awards total_in Sums
awards-sum o bs = part-all o bs [] bs ∙ sums_in o bs
