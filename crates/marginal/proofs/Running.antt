-- Over keys that rise, the first bid at which the running total reaches Q stands at the marginal rate. Assumes nothing.
use mathlib.Core.Path.{◌≡◌, refl, sym, ◌∙◌, ap, subst}
use mathlib.Core.Bool.{Bool, true, false, ◌&&◌, not, cond}
use mathlib.Core.Option.{none, some}
use mathlib.Core.List.{List, Memᴰ}
use Prim.Native.Nat.{ℕ, ◌+◌, ◌/◌, ◌%◌, ◌≤◌, ◌<◌}
use native.Mathlib.Omega.{arith}
use native.Mathlib.Numerals.{add-one}
use lib.Dec.{leb, ltb}
use lib.ListN.{length, get_or, take}
use lib.Seq.{take-suc}
use borrow.Author.Tests.{ltb-true, ltb-false, leb-true, le-leb}
use Rattle.laws.proofs.Tests.{and_left, and_right}
use Rattle.sort.specs.Sorting.{weight_of, Rising}
use Rattle.sort.proofs.Sorting.{weight-last}
use Rattle.rules.specs.Allotment.{Bid, Offer, better_rate, is_in, is_better, is_equal, keep, total, total_better, total_equal, reaches, marginal_rate}
use Rattle.rules.proofs.Kept.{mem_keep, keep_mem, total_split}
use Rattle.rules.proofs.Rates.{not_worse, split_rate}
use Rattle.rules.proofs.Best.{best_unique, best_none, is_marginal}
use Rattle.bids.proofs.SideBySide.{member_at}
use Rattle.offer.proofs.Sums.{keep_le}
use Rattle.offer.specs.Viewed.{ranks}
use Rattle.marginal.specs.Ranks.{key_bid, is_key, Ranked}
use Rattle.marginal.proofs.Sums.{cond_le, sum-within, sum_stops, sum_none, weight-amount, weight_test, weight_member}
use Rattle.marginal.proofs.Ranks.{lower_rank, better_than}

-- the running total over the first j keys
unfoldable pub running : List Bid → List ℕ → ℕ → ℕ
running bs keys j = weight_of (λ k. (key_bid bs k).amount) (take j keys)

pub running_start : (bs : List Bid) (keys : List ℕ) → 0 ≡ running bs keys 0
unfolding running weight_of
running_start bs keys = refl

pub running_next : (bs : List Bid) (keys : List ℕ) (j : ℕ) → j < length keys → running bs keys (j + 1) ≡ running bs keys j + (key_bid bs (get_or keys j 0)).amount
unfolding running
running_next bs keys j h =
    ap (λ (n : ℕ). weight_of (λ k. (key_bid bs k).amount) (take n keys)) (add-one j)
    ∙ ap (weight_of (λ k. (key_bid bs k).amount)) (take-suc keys j 0 h)
    ∙ weight-last (λ k. (key_bid bs k).amount) (take j keys) (get_or keys j 0)

module _ (o : Offer) (bs : List Bid) (keys : List ℕ) (ranked : Ranked o bs keys) (up : Rising keys) where
  abbrev bid : ℕ → Bid
  bid j = key_bid bs (get_or keys j 0)

  abbrev total_to : ℕ → ℕ
  total_to r = total_better o bs r + total_equal o bs r

  is_in_lem : (j : ℕ) → j < length keys → is_in o (bid j) ≡ true
  unfolding is_key
  is_in_lem j h = and_left (is_in o (bid j)) _ (ranked.are_keys j h)

  pub index_below : (j : ℕ) → j < length keys → get_or keys j 0 % 1024 < length bs
  unfolding is_key
  index_below j h = ltb-true (get_or keys j 0 % 1024) (length bs) (and_left _ _ (and_right (is_in o (bid j)) _ (ranked.are_keys j h)))

  rank : (j : ℕ) → j < length keys → ranks o.side (bid j).rate (get_or keys j 0 / 1024) ≡ true
  unfolding is_key
  rank j h = and_right (ltb (get_or keys j 0 % 1024) (length bs)) _ (and_right (is_in o (bid j)) _ (ranked.are_keys j h))

  in_list : (j : ℕ) → j < length keys → Memᴰ (bid j) bs
  in_list j h = member_at bs (get_or keys j 0 % 1024) (index_below j h)

  -- a later bid is not better
  later : (i j : ℕ) → i ≤ j → j < length keys → better_rate o.side (bid j).rate (bid i).rate ≡ false
  later i j h g =
      lower_rank o.side (bid i).rate (bid j).rate (get_or keys i 0 / 1024) (get_or keys j 0 / 1024) (rank i (omega arith)) (rank j g) (omega (arith, up i j h g))

  amount_to : ℕ → ℕ → ℕ
  amount_to r k = cond (not (better_rate o.side r (key_bid bs k).rate)) (key_bid bs k).amount 0

  -- the total at better rates and at the rate itself, over the keys
  total_to_lem : (r : ℕ) → total_to r ≡ weight_of (amount_to r) keys
  unfolding total_better total_equal not_worse amount_to
  total_to_lem r =
      sym (total_split (not_worse o r) (is_better o r) (is_equal o r) (split_rate o r) bs)
      ∙ sym (weight_test (is_in o) (λ b. not (better_rate o.side r b.rate)) bs)
      ∙ sym (ranked.weigh (λ b. cond (not (better_rate o.side r b.rate)) b.amount 0))

  -- the total at a bid's rate has all earlier bids and this one
  has_earlier : (j : ℕ) → j < length keys → running bs keys j + (bid j).amount ≤ total_to (bid j).rate
  unfolding running amount_to
  has_earlier j h =
      omega (
        arith,
        total_to_lem (bid j).rate,
        running_next bs keys j h,
        sum-within (λ k. (key_bid bs k).amount) (amount_to (bid j).rate) keys (j + 1) (λ i g l. rw (later i j (omega arith) h) (omega arith)),
      )

  -- the total at a rate better than a bid's has earlier bids only
  has_no_later : (j r : ℕ) → j < length keys → better_rate o.side r (bid j).rate ≡ true → total_to r ≤ running bs keys j
  unfolding running amount_to
  has_no_later j r h g =
      omega (
        arith,
        total_to_lem r,
        sum_stops (λ k. (key_bid bs k).amount) (amount_to r) keys j
            (λ i s. cond_le (not (better_rate o.side r (bid i).rate)) (bid i).amount)
            (λ i s t. rw (better_than o.side r (bid j).rate (bid i).rate g (later j i s t))),
      )

  -- no running total is above the total of all bids
  pub running_le : (j : ℕ) → running bs keys j ≤ total bs
  unfolding running
  running_le j =
      omega (
        arith,
        sum-within (λ k. (key_bid bs k).amount) (λ k. (key_bid bs k).amount) keys j (λ i g l. omega arith),
        ranked.weigh (λ b. b.amount),
        weight-amount (keep (is_in o) bs),
        keep_le (is_in o) bs,
      )

  total_to_le : (r : ℕ) → total_to r ≤ running bs keys (length keys)
  unfolding running amount_to
  total_to_le r =
      omega (
        arith,
        total_to_lem r,
        sum_stops (λ k. (key_bid bs k).amount) (amount_to r) keys (length keys)
            (λ i s. cond_le (not (better_rate o.side r (bid i).rate)) (bid i).amount)
            (λ i s t. absurd (omega arith)),
      )

  -- no bid in is better than the first
  first_best : 0 < length keys → (b : Bid) → Memᴰ b bs → is_in o b ≡ true → better_rate o.side b.rate (bid 0).rate ≡ true → ⊥
  first_best pos b m i h =
      let w : Bid → ℕ = λ x. cond (better_rate o.side x.rate (bid 0).rate) 1 0 in
      let none_better = sum_none (λ k. w (key_bid bs k)) keys (λ j s. ap {B = ℕ} (λ (t : Bool). cond t 1 0) (later 0 j (omega arith) s)) in
      let one : w b ≡ 1 = ap {B = ℕ} (λ (t : Bool). cond t 1 0) h in
      omega (arith, none_better, one, ranked.weigh w, weight_member w (keep (is_in o) bs) b (keep_mem (is_in o) bs m i))

  -- without keys there is no bid in
  none_in : length keys ≡ 0 → (b : Bid) → Memᴰ b bs → is_in o b ≡ true → ⊥
  none_in e b m i =
      omega (
        arith,
        sum_none (λ k. 1) keys (λ j s. absurd (omega arith)),
        ranked.weigh (λ x. 1),
        weight_member (λ x. 1) (keep (is_in o) bs) b (keep_mem (is_in o) bs m i),
      )

  -- the running total falls short of Q before the bid j, and reaches it there
  pub reached : (j : ℕ) → j < length keys → (0 < j → running bs keys j < o.offered) → o.offered ≤ running bs keys j + (bid j).amount
      → marginal_rate o bs ≡ some (bid j).rate
  unfolding reaches
  reached j h short enough =
      best_unique o.side (keep (reaches o bs) bs) (bid j).rate (marginal_rate o bs)
      ((bid j, keep_mem (reaches o bs) bs (in_list j h) bid-reaches, refl), none_better) (is_marginal o bs)
    where
      bid-reaches : (is_in o (bid j) && leb o.offered (total_to (bid j).rate)) ≡ true
      bid-reaches = rw (is_in_lem j h, le-leb o.offered (total_to (bid j).rate) (omega (arith, has_earlier j h)))

      not_yet : (b : Bid) → Memᴰ b bs → is_in o b ≡ true → o.offered ≤ total_to b.rate
          → (t u : Bool) → better_rate o.side b.rate (bid j).rate ≡ t → ltb 0 j ≡ u → t ≡ false
      not_yet b m i q true true e f = absurd (omega (arith, has_no_later j b.rate h e, short (ltb-true 0 j f)))
      not_yet b m i q true false e f =
          let z : j ≡ 0 = omega (arith, ltb-false) in
          absurd (first_best (omega arith) b m i (subst (λ (x : ℕ). better_rate o.side b.rate (bid x).rate ≡ true) z e))
      not_yet b m i q false u e f = refl

      none_better : (b : Bid) → Memᴰ b (keep (reaches o bs) bs) → better_rate o.side b.rate (bid j).rate ≡ false
      none_better b m =
          let k : Memᴰ b bs × (reaches o bs b ≡ true) = mem_keep (reaches o bs) bs m in
          not_yet b k.0 (and_left _ _ k.1) (leb-true _ _ (and_right (is_in o b) (leb o.offered (total_to b.rate)) k.1))
          (better_rate o.side b.rate (bid j).rate) (ltb 0 j) refl refl

  -- the running total falls short of Q over all keys
  pub not_reached : (0 < length keys → running bs keys (length keys) < o.offered) → marginal_rate o bs ≡ none
  unfolding reaches
  not_reached short = best_none o.side (keep (reaches o bs) bs) (marginal_rate o bs) none_reaches (is_marginal o bs)
    where
      too_few : (b : Bid) → Memᴰ b bs → is_in o b ≡ true → o.offered ≤ total_to b.rate → (u : Bool) → ltb 0 (length keys) ≡ u → ⊥
      too_few b m i q true f = omega (arith, short (ltb-true 0 (length keys) f), total_to_le b.rate)
      too_few b m i q false f = none_in (omega (arith, ltb-false)) b m i

      none_reaches : (b : Bid) → Memᴰ b (keep (reaches o bs) bs) → ⊥
      none_reaches b m =
          let k : Memᴰ b bs × (reaches o bs b ≡ true) = mem_keep (reaches o bs) bs m in
          too_few b k.0 (and_left _ _ k.1) (leb-true _ _ (and_right (is_in o b) (leb o.offered (total_to b.rate)) k.1)) (ltb 0 (length keys)) refl
