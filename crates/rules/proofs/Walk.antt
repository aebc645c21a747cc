-- The walk over rates, best first, with a running total gives the marginal rate. Assumes nothing.
use mathlib.Core.Path.{◌≡◌, refl, sym, ◌∙◌, ap, subst}
use mathlib.Core.Bool.{Bool, true, false, ◌&&◌, not, cond, true≢false, and-false}
use mathlib.Core.Option.{Option, none, some}
use mathlib.Core.List.{List, [], ◌∷◌, Memᴰ}
use Prim.Native.Nat.{ℕ, zero, suc, ◌+◌, ◌≤◌, ◌<◌}
use native.Mathlib.Omega.{arith}
use lib.Dec.{leb}
use lib.ListN.{length}
use borrow.Author.Tests.{leb-true, leb-false, le-leb}
use Rattle.laws.proofs.Tests.{and_left, and_right}
use Rattle.rules.specs.Allotment.{Bid, Offer, better_rate, is_in, is_better, is_equal, keep, total, total_better, total_equal, reaches, best_rate, marginal_rate, past_rate, is_past, walk_to, walk}
use Rattle.rules.proofs.Kept.{mem_keep, keep_mem, Agree, keep_agree, Split, total_split, length-keep, length_lt}
use Rattle.rules.proofs.Rates.{not_itself, not_both, same-rate, also_better, not_worse, split_rate}
use Rattle.rules.proofs.Best.{IsBest, is_best, best_unique, best_none, is_marginal}

-- the running total at a rate, as the definition of the marginal rate has it
abbrev total_to : Offer → List Bid → ℕ → ℕ
total_to o bs r = total_better o bs r + total_equal o bs r

-- at the rate walked to or better
up_to : Offer → Option ℕ → Bid → Bool
up_to o at b = is_in o b && not (past_rate o.side at b.rate)

-- the walk has come to `at` with the running total `running`, and the total has not reached Q at any rate so far
record Walked (o : Offer) (bs : List Bid) (at : Option ℕ) (running : ℕ) : Type 0 where
  so_far : running ≡ total (keep (up_to o at) bs)
  short : (b : Bid) → Memᴰ b bs → is_in o b ≡ true → past_rate o.side at b.rate ≡ false
      → total_to o bs b.rate < o.offered

none_up_to : (o : Offer) (bs : List Bid) → 0 ≡ total (keep (up_to o none) bs)
unfolding total keep up_to past_rate
none_up_to o [] = refl
none_up_to o (b ∷ bs) = go (is_in o b) (none_up_to o bs)
  where
    go : (t : Bool) → 0 ≡ total (keep (up_to o none) bs) → 0 ≡ total (cond (t && false) (b ∷ keep (up_to o none) bs) (keep (up_to o none) bs))
    go true ih = ih
    go false ih = ih

module _ (o : Offer) (bs : List Bid) where
  start : Walked o bs none 0
  unfolding past_rate
  start = record { so_far = none_up_to o bs; short = λ b m i p. absurd (true≢false p) }

  module _ (at : Option ℕ) (running : ℕ) (w : Walked o bs at running) where
    -- no bid in is past `at`: there is no marginal rate
    ends : ((b : Bid) → Memᴰ b (keep (is_past o at) bs) → ⊥) → marginal_rate o bs ≡ none
    unfolding is_past reaches
    ends all_done = best_none o.side (keep (reaches o bs) bs) (marginal_rate o bs) none_reaches (is_marginal o bs)
      where
        not_reached : (b : Bid) → Memᴰ b bs → is_in o b ≡ true → (t : Bool) → past_rate o.side at b.rate ≡ t
            → leb o.offered (total_to o bs b.rate) ≡ true → ⊥
        not_reached b m i true p q = all_done b (keep_mem (is_past o at) bs m (rw (i, p)))
        not_reached b m i false p q = omega (arith, leb-true, w.short b m i p)

        none_reaches : (b : Bid) → Memᴰ b (keep (reaches o bs) bs) → ⊥
        none_reaches b m =
            let h : Memᴰ b bs × (reaches o bs b ≡ true) = mem_keep (reaches o bs) bs m in
            not_reached b h.0 (and_left _ _ h.1) (past_rate o.side at b.rate) refl
            (and_right (is_in o b) (leb o.offered (total_to o bs b.rate)) h.1)

    module _ (r : ℕ) (next : IsBest o.side (keep (is_past o at) bs) (some r)) where
      in_next : Memᴰ next.0.0 bs × (is_past o at next.0.0 ≡ true)
      in_next = mem_keep (is_past o at) bs next.0.1

      next_in : is_in o next.0.0 ≡ true
      unfolding is_past
      next_in = and_left (is_in o next.0.0) (past_rate o.side at next.0.0.rate) in_next.1

      next_past : past_rate o.side at r ≡ true
      unfolding is_past
      next_past =
          subst (λ (x : ℕ). past_rate o.side at x ≡ true) next.0.2
          (and_right (is_in o next.0.0) (past_rate o.side at next.0.0.rate) in_next.1)

      -- a bid in past `at` is not better than r; one at `at` or better is
      past_worse : (b : Bid) → Memᴰ b bs → is_in o b ≡ true → past_rate o.side at b.rate ≡ true
          → better_rate o.side b.rate r ≡ false
      unfolding is_past
      past_worse b m i p = next.1 b (keep_mem (is_past o at) bs m (rw (i, p)))

      up_to_better : (a : Option ℕ) → past_rate o.side a r ≡ true → (b : Bid) → past_rate o.side a b.rate ≡ false
          → better_rate o.side b.rate r ≡ true
      unfolding past_rate
      up_to_better none h b p = absurd (true≢false p)
      up_to_better (some c) h b p = also_better o.side c b.rate r p h

      better_past : (b : Bid) → Memᴰ b bs → is_in o b ≡ true → better_rate o.side b.rate r ≡ true
          → past_rate o.side at b.rate ≡ false
      better_past b m i h = go (past_rate o.side at b.rate) refl
        where
          go : (t : Bool) → past_rate o.side at b.rate ≡ t → t ≡ false
          go true p = absurd (true≢false (sym h ∙ past_worse b m i p))
          go false p = refl

      agree : Agree (is_better o r) (up_to o at) bs
      unfolding is_better up_to
      agree b m = go (is_in o b) refl (past_rate o.side at b.rate) refl
        where
          go : (i : Bool) → is_in o b ≡ i → (p : Bool) → past_rate o.side at b.rate ≡ p → (i && better_rate o.side b.rate r) ≡ (i && not p)
          go true i true p = past_worse b m i p
          go true i false p = up_to_better at next_past b p
          go false i p e = refl

      -- the total at rates better than the next one is the running total
      better_is : total_better o bs r ≡ running
      unfolding total_better
      better_is = ap total (keep_agree (is_better o r) (up_to o at) bs agree) ∙ sym w.so_far

      -- the total reaches Q at the next rate: it is the marginal rate
      reached : o.offered ≤ running + total_equal o bs r → marginal_rate o bs ≡ some r
      unfolding reaches
      reached h = best_unique o.side (keep (reaches o bs) bs) r (marginal_rate o bs) (is_next, none_better) (is_marginal o bs)
        where
          enough : leb o.offered (total_to o bs r) ≡ true
          enough = le-leb o.offered (total_to o bs r) (omega (arith, better_is))

          next_reaches : (is_in o next.0.0 && leb o.offered (total_to o bs next.0.0.rate)) ≡ true
          next_reaches = rw (next_in, next.0.2) enough

          is_next : (b : Bid) × Memᴰ b (keep (reaches o bs) bs) × (b.rate ≡ r)
          is_next = (next.0.0, keep_mem (reaches o bs) bs in_next.0 next_reaches, next.0.2)

          not_yet : (b : Bid) → Memᴰ b bs → is_in o b ≡ true → leb o.offered (total_to o bs b.rate) ≡ true
              → (t : Bool) → better_rate o.side b.rate r ≡ t → t ≡ false
          not_yet b m i q true e = absurd (omega (arith, leb-true, w.short b m i (better_past b m i e)))
          not_yet b m i q false e = refl

          none_better : (b : Bid) → Memᴰ b (keep (reaches o bs) bs) → better_rate o.side b.rate r ≡ false
          none_better b m =
              let k : Memᴰ b bs × (reaches o bs b ≡ true) = mem_keep (reaches o bs) bs m in
              not_yet b k.0 (and_left _ _ k.1)
              (and_right (is_in o b) (leb o.offered (total_to o bs b.rate)) k.1)
              (better_rate o.side b.rate r) refl

      split : Split (up_to o (some r)) (is_better o r) (is_equal o r)
      unfolding up_to past_rate not_worse
      split = split_rate o r

      -- it does not: the walk goes on from there
      goes_on : running + total_equal o bs r < o.offered → Walked o bs (some r) (running + total_equal o bs r)
      unfolding total_better total_equal past_rate
      goes_on h =
          record {
            so_far = omega (arith, better_is, total_split (up_to o (some r)) (is_better o r) (is_equal o r) split bs);
            short = λ b m i p. go b m i p (better_rate o.side b.rate r) refl;
          }
        where
          go : (b : Bid) → Memᴰ b bs → is_in o b ≡ true → better_rate o.side r b.rate ≡ false → (t : Bool) → better_rate o.side b.rate r ≡ t
              → total_to o bs b.rate < o.offered
          go b m i p true e = w.short b m i (better_past b m i e)
          go b m i p false e = rw (same-rate o.side b.rate r e p) (omega (arith, better_is))

-- the walk ends

module _ (o : Offer) (bs : List Bid) where
  fewer : (at : Option ℕ) (running : ℕ) (w : Walked o bs at running) (r : ℕ) → IsBest o.side (keep (is_past o at) bs) (some r)
      → length (keep (is_past o (some r)) bs) < length (keep (is_past o at) bs)
  unfolding is_past past_rate
  fewer at running w r next =
      length_lt (is_past o (some r)) (is_past o at) bs still next.0.0 (mem_keep (is_past o at) bs next.0.1).0 here
      (mem_keep (is_past o at) bs next.0.1).1
    where
      here : (is_in o next.0.0 && better_rate o.side r next.0.0.rate) ≡ false
      here =
          ap (λ (t : Bool). is_in o next.0.0 && t)
          (ap (λ (x : ℕ). better_rate o.side r x) next.0.2 ∙ not_itself o.side r) ∙ and-false (is_in o next.0.0)

      keeps : (b : Bid) → better_rate o.side r b.rate ≡ true → (t : Bool) → past_rate o.side at b.rate ≡ t → t ≡ true
      keeps b k true e = refl
      keeps b k false e =
          absurd (true≢false (sym (up_to_better o bs at running w r next at (next_past o bs at running w r next) b e) ∙ not_both o.side r b.rate k))

      still : (b : Bid) → (is_in o b && better_rate o.side r b.rate) ≡ true → (is_in o b && past_rate o.side at b.rate) ≡ true
      still b h =
          rw (and_left (is_in o b) (better_rate o.side r b.rate) h)
          (keeps b (and_right (is_in o b) (better_rate o.side r b.rate) h) (past_rate o.side at b.rate) refl)

  walk_from : (steps : ℕ) (at : Option ℕ) (running : ℕ) → Walked o bs at running → length (keep (is_past o at) bs) < steps
      → walk o bs steps at running ≡ marginal_rate o bs
  unfolding walk walk_to
  walk_from zero at running w h = absurd (omega arith)
  walk_from (suc steps) at running w h =
      go (best_rate o.side (keep (is_past o at) bs)) (is_best o.side (keep (is_past o at) bs)) (λ r s v k. walk_from steps (some r) s v k)
    where
      go : (l : Option ℕ) → IsBest o.side (keep (is_past o at) bs) l
          → ((r s : ℕ) → Walked o bs (some r) s → length (keep (is_past o (some r)) bs) < steps → walk o bs steps (some r) s ≡ marginal_rate o bs)
          → walk_to o bs running l (λ r s. walk o bs steps (some r) s) ≡ marginal_rate o bs
      go none b ih = sym (ends o bs at running w b)
      go (some r) b ih = pick (leb o.offered (running + total_equal o bs r)) refl
        where
          pick : (t : Bool) → leb o.offered (running + total_equal o bs r) ≡ t
              → cond t (some r) (walk o bs steps (some r) (running + total_equal o bs r)) ≡ marginal_rate o bs
          pick true e = sym (reached o bs at running w r b (leb-true o.offered (running + total_equal o bs r) e))
          pick false e =
              ih r (running + total_equal o bs r)
              (goes_on o bs at running w r b (leb-false o.offered (running + total_equal o bs r) e))
              (omega (arith, fewer at running w r b))

-- a step for each place and one more are enough
pub walk-marginal : (o : Offer) (bs : List Bid) → walk o bs (suc (length bs)) none 0 ≡ marginal_rate o bs
walk-marginal o bs = walk_from o bs (suc (length bs)) none 0 (start o bs) (omega (arith, length-keep (is_past o none) bs))
