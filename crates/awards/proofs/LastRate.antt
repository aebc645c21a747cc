-- The marginal rate is the last rate served, and where there is none the limit rate is. Assumes nothing.
use mathlib.Core.Path.{◌≡◌, refl, sym, ap, ◌∙◌, subst}
use mathlib.Core.Bool.{Bool, true, false, not, cond, false≢true, true≢false}
use mathlib.Core.Option.{Option, none, some}
use mathlib.Core.List.Memᴰ
use mathlib.Core.List.{List, [], ◌∷◌, Memᴰ}
use Prim.Native.Nat.{ℕ, ◌+◌, ◌≤◌}
use native.Mathlib.Omega.{arith}
use lib.Dec.{leb}
use borrow.Author.Tests.{leb-true, leb-false, le-leb, eq-eqb, not-true}
use Rattle.laws.proofs.Tests.{and_left, and_right}
use Rattle.rules.specs.Allotment.{Bid, Offer, filled, better_rate, is_in, is_better, is_equal}
use Rattle.rules.specs.Allotment.{keep, total, total_better, total_equal, award, reaches, marginal_rate}
use Rattle.rules.proofs.Kept.{mem_keep, keep_mem, total_cons, total_split}
use Rattle.rules.proofs.Rates.{also_better, not_worse, split_rate}
use Rattle.rules.proofs.Best.{IsBest, is_marginal}
use Rattle.awards.specs.LastRate.{LastRate, last_of}

-- where p implies q, q keeps as much
total_le : (p q : Bid → Bool) → ((b : Bid) → p b ≡ true → q b ≡ true) → (bs : List Bid) → total (keep p bs) ≤ total (keep q bs)
unfolding total keep
total_le p q h [] = omega arith
total_le p q h (b ∷ bs) = go (p b) (q b) (h b) (total_le p q h bs)
  where
    go : (s t : Bool) → (s ≡ true → t ≡ true) → total (keep p bs) ≤ total (keep q bs)
        → total (cond s (b ∷ keep p bs) (keep p bs)) ≤ total (cond t (b ∷ keep q bs) (keep q bs))
    go true true i ih = omega arith
    go true false i ih = absurd (false≢true (i refl))
    go false true i ih = omega arith
    go false false i ih = ih

-- a bid kept is within the total of those kept
amount_le : (p : Bid → Bool) (bs : List Bid) (b : Bid) → Memᴰ b bs → p b ≡ true → b.amount ≤ total (keep p bs)
unfolding total keep
amount_le p [] b m h = absurd (Memᴰ.not-nil m)
amount_le p (x ∷ bs) b (Memᴰ.head e) h = rw (ap p (sym e) ∙ h) (omega (arith, ap {B = ℕ} (λ (y : Bid). y.amount) e))
amount_le p (x ∷ bs) b (Memᴰ.tail m) h = omega (arith, total_cons p x bs, amount_le p bs b m h)

module _ (o : Offer) (bs : List Bid) where
  -- the running total at a rate is within the total better than a worse one
  running_le : (r s : ℕ) → better_rate o.side r s ≡ true → total_better o bs r + total_equal o bs r ≤ total_better o bs s
  unfolding total_better total_equal not_worse is_better
  running_le r s h =
      omega (arith, total_split (not_worse o r) (is_better o r) (is_equal o r) (split_rate o r) bs, total_le (not_worse o r) (is_better o s) better bs)
    where
      better : (b : Bid) → not_worse o r b ≡ true → is_better o s b ≡ true
      better b e =
          rw (and_left (is_in o b) (not (better_rate o.side r b.rate)) e)
          (also_better o.side r b.rate s (not-true _ (and_right (is_in o b) (not (better_rate o.side r b.rate)) e)) h)

  -- a bid in at whose rate the running total does not reach Q is awarded in full
  award_full : (before : List Bid) (b : Bid) → Memᴰ b bs → is_in o b ≡ true → (Memᴰ b (keep (reaches o bs) bs) → ⊥)
      → award o bs before b ≡ b.amount
  unfolding award reaches
  award_full before b m i short =
      rw (
        i,
        le-leb (total_better o bs b.rate + total_equal o bs b.rate) o.offered
            (go (leb o.offered (total_better o bs b.rate + total_equal o bs b.rate)) refl),
      )
    where
      go : (t : Bool) → leb o.offered (total_better o bs b.rate + total_equal o bs b.rate) ≡ t
          → total_better o bs b.rate + total_equal o bs b.rate ≤ o.offered
      go true e = absurd (short (keep_mem (reaches o bs) bs m (rw (i, e))))
      go false e = omega (arith, leb-false)

  -- a bid in whose better rates reach Q gets nothing
  award_none : (before : List Bid) (b : Bid) → Memᴰ b bs → is_in o b ≡ true → o.offered ≤ total_better o bs b.rate → award o bs before b ≡ 0
  unfolding award is_equal total_equal
  award_none before b m i gone = go (leb (total_better o bs b.rate + total_equal o bs b.rate) o.offered) refl
    where
      own : b.amount ≤ total_equal o bs b.rate
      own = amount_le (is_equal o b.rate) bs b m (rw (i, eq-eqb b.rate b.rate refl))

      go : (t : Bool) → leb (total_better o bs b.rate + total_equal o bs b.rate) o.offered ≡ t → award o bs before b ≡ 0
      go true e = rw (i, e) (omega (arith, leb-true, gone, own))
      go false e = rw (i, e, le-leb o.offered (total_better o bs b.rate) gone)

  -- at the marginal rate the running total reaches Q
  marginal-reaches : (r : ℕ) → IsBest o.side (keep (reaches o bs) bs) (some r) → o.offered ≤ total_better o bs r + total_equal o bs r
  unfolding reaches
  marginal-reaches r best =
      let b = best.0.0 in
      subst (λ (x : ℕ). o.offered ≤ total_better o bs x + total_equal o bs x) best.0.2
      (leb-true o.offered (total_better o bs b.rate + total_equal o bs b.rate)
      (and_right (is_in o b) (leb o.offered (total_better o bs b.rate + total_equal o bs b.rate)) (mem_keep (reaches o bs) bs best.0.1).1))

  last_best : (l : Option ℕ) → IsBest o.side (keep (reaches o bs) bs) l → LastRate o bs (last_of o l)
  unfolding last_of is_in
  last_best (some r) best before b m i = (
    λ better. award_full before b m i (λ k. true≢false (sym better ∙ best.1 b k)),
    λ worse. award_none before b m i (omega (arith, marginal-reaches r best, running_le r b.rate worse)),
  )
  last_best none best before b m i = (
    λ better. award_full before b m i (best b),
    λ worse. absurd (true≢false (sym worse ∙ not-true _ (and_right (filled b) (not (better_rate o.side o.limit b.rate)) i))),
  )

pub last_is : (o : Offer) (bs : List Bid) (l : Option ℕ) → marginal_rate o bs ≡ l → LastRate o bs (last_of o l)
last_is o bs l e = last_best o bs l (subst (IsBest o.side (keep (reaches o bs) bs)) e (is_marginal o bs))
