-- The walk gives the cut bids. Assumes nothing.
use mathlib.Core.Path.{◌≡◌, refl, sym, ◌∙◌, ap, ap₂, subst}
use mathlib.Core.Logic.{◌⊎◌, inl, inr}
use mathlib.Core.Bool.{Bool, true, false, cond}
use mathlib.Core.List.Memᴰ
use mathlib.Core.List.{List, [], ◌∷◌, ◌++◌, map, append_assoc, Memᴰ}
use Prim.Native.Nat.{ℕ, zero, suc, ◌+◌, ◌-◌, min}
use native.Mathlib.Omega.{arith}
use lib.Dec.{ltb, eqb}
use lib.ListN.{length, length-append}
use borrow.Author.Tests.{ltb-true, ltb-false, eq-eqb}
use Rattle.announcement.specs.declared.Side.{Side}
use Rattle.rules.specs.Allotment.{Bid, Offer, is_in, is_better, is_equal, keep, total, total_better, total_equal}
use Rattle.rules.specs.Cuts.{cut_to, cut_above, left_of_cap, cut_bid, cut_from}
use Rattle.rules.proofs.Kept.{keep_mem}
use Rattle.credit_limits.specs.Walk.{PlacedBid, placed_from, is_walked, best_first, cut_next, cut_along, walked, left_at, after_walk, walked_bids}
use Rattle.credit_limits.specs.Theorems.{WalkGivesCuts}
use Rattle.credit_limits.proofs.Capped.{bids_cut}
use Rattle.credit_limits.proofs.Order.{walked_before, Before, not_before_itself, Sorted, none, next, mem_best, best_sorted, placed_rising, keep-rising}
use Rattle.credit_limits.proofs.Weighing.{weigh, weigh_none, weigh-first, weigh_best, weigh-all}

to_amount : (n : ℕ) (b : Bid) → (cut_to n b).amount ≡ n
unfolding cut_to
to_amount zero b = refl
to_amount (suc n) b = refl

above_amount : (n : ℕ) (b : Bid) → (cut_above n b).amount ≡ min b.amount n
unfolding cut_above
above_amount n b = go (ltb n b.amount) refl
  where
    go : (t : Bool) → ltb n b.amount ≡ t → (cond t (cut_to n b) b).amount ≡ min b.amount n
    go true e = omega (arith, ltb-true n b.amount e, to_amount n b)
    go false e = omega (arith, ltb-false n b.amount e)

-- what the walk leaves to a bid, with bids of s eurocents walked before the list, uncut
walk_at : (d : Side) (cap s : ℕ) (xs : List PlacedBid)
    → Sorted (Before d) xs
    → (y : PlacedBid)
    → Memᴰ y xs
    → left_at y.place (cut_along cap (min cap s) xs) ≡ cut_above (cap - (s + weigh (walked_before d y) xs)) y.bid
unfolding cut_along cut_next left_at
walk_at d cap s [] none y m = absurd (Memᴰ.not-nil m)
walk_at d cap s (x ∷ xs) (next all sorted) y m = go (Memᴰ.cases_cons m) (λ k. walk_at d cap (s + x.bid.amount) xs sorted y k)
  where
    further : List PlacedBid
    further = cut_along cap (min cap s + (cut_above (cap - min cap s) x.bid).amount) xs

    none_before : weigh (walked_before d x) (x ∷ xs) ≡ 0
    none_before = weigh_none (walked_before d x) (x ∷ xs) (λ z k. each z (Memᴰ.cases_cons k))
      where
        each : (z : PlacedBid) → (z ≡ x) ⊎ Memᴰ z xs → walked_before d x z ≡ false
        each z (inl e) = ap (walked_before d x) e ∙ not_before_itself d x
        each z (inr k) = (all z k).back

    here : cond (eqb x.place x.place) (cut_above (cap - min cap s) x.bid) (left_at x.place further)
        ≡ cut_above (cap - (s + weigh (walked_before d x) (x ∷ xs))) x.bid
    here =
        ap (λ (t : Bool). cond t (cut_above (cap - min cap s) x.bid) (left_at x.place further)) (eq-eqb x.place x.place refl)
        ∙ ap (λ (n : ℕ). cut_above n x.bid) (let same : cap - min cap s ≡ cap - (s + weigh (walked_before d x) (x ∷ xs)) = omega (arith, none_before) in same)

    go : (y ≡ x) ⊎ Memᴰ y xs
        → (Memᴰ y xs
        → left_at y.place (cut_along cap (min cap (s + x.bid.amount)) xs) ≡ cut_above (cap - (s + x.bid.amount + weigh (walked_before d y) xs)) y.bid)
        → cond (eqb x.place y.place) (cut_above (cap - min cap s) x.bid) (left_at y.place further)
        ≡ cut_above (cap - (s + weigh (walked_before d y) (x ∷ xs))) y.bid
    go (inl e) ih =
        subst
        (λ (z : PlacedBid).
        cond (eqb x.place z.place) (cut_above (cap - min cap s) x.bid) (left_at z.place further)
        ≡ cut_above (cap - (s + weigh (walked_before d z) (x ∷ xs))) z.bid)
        (sym e) here
    go (inr k) ih =
        ap (λ (t : Bool). cond t (cut_above (cap - min cap s) x.bid) (left_at y.place further)) (all y k).apart
        ∙ ap (λ (n : ℕ). left_at y.place (cut_along cap n xs)) running
        ∙ ih k
        ∙ ap (λ (n : ℕ). cut_above n y.bid) before_both
      where
        running : min cap s + (cut_above (cap - min cap s) x.bid).amount ≡ min cap (s + x.bid.amount)
        running = omega (arith, above_amount (cap - min cap s) x.bid)

        before_both : cap - (s + x.bid.amount + weigh (walked_before d y) xs) ≡ cap - (s + weigh (walked_before d y) (x ∷ xs))
        before_both = omega (arith, weigh-first (walked_before d y) x xs (all y k).walks)

placed_mem : (k : ℕ) (before : List Bid) (b : Bid) (rest : List Bid) (n : ℕ)
    → n ≡ k + length before
    → Memᴰ (record { place = n; bid = b }) (placed_from k (before ++ (b ∷ rest)))
unfolding placed_from
placed_mem k [] b rest n h = Memᴰ.head (ap {B = PlacedBid} (λ (m : ℕ). record { place = m; bid = b }) (let e : n ≡ k = omega arith in e))
placed_mem k (x ∷ before) b rest n h = Memᴰ.tail (placed_mem (suc k) before b rest n (omega arith))

module _ (o : Offer) (cap : ℕ) (bs : List Bid) where
  in_places : List PlacedBid
  in_places = keep (is_walked o) (placed_from 0 bs)

  in_order : List PlacedBid
  in_order = best_first o.side in_places

  sorted : Sorted (Before o.side) in_order
  unfolding in_order in_places
  sorted = best_sorted o.side in_places (keep-rising (is_walked o) (placed_from 0 bs) (placed_rising 0 bs))

  walked_at : (before : List Bid) (b : Bid) (rest : List Bid)
      → bs ≡ before ++ (b ∷ rest)
      → is_in o b ≡ true
      → cut_above (left_of_cap o cap bs before b) b ≡ left_at (length before) (walked o cap bs)
  unfolding walked left_of_cap total_better total_equal in_order in_places
  walked_at before b rest e i =
      ap (λ (n : ℕ). cut_above n b)
      (let same : cap - (total (keep (is_better o b.rate) bs) + total (keep (is_equal o b.rate) before)) ≡ cap - (0 + weigh (walked_before o.side y) in_order) = omega (arith, weighed) in same)
      ∙ sym (walk_at o.side cap 0 in_order sorted y inside)
      ∙ ap (λ (n : ℕ). left_at (length before) (cut_along cap n in_order)) (let start : min cap 0 ≡ 0 = omega arith in start)
    where
      y : PlacedBid
      y = record { place = length before; bid = b }

      member : Memᴰ y (placed_from 0 bs)
      member = subst (λ (xs : List Bid). Memᴰ y (placed_from 0 xs)) (sym e) (placed_mem 0 before b rest (length before) (omega arith))

      inside : Memᴰ y in_order
      inside = mem_best o.side in_places (keep_mem (is_walked o) (placed_from 0 bs) member (unfold is_walked in i))

      weighed : weigh (walked_before o.side y) in_order ≡ total (keep (is_better o b.rate) bs) + total (keep (is_equal o b.rate) before)
      weighed =
          weigh_best (walked_before o.side y) o.side in_places
          ∙ subst
          (λ (xs : List Bid).
          weigh (walked_before o.side y) (keep (is_walked o) (placed_from 0 xs)) ≡ total (keep (is_better o b.rate) xs) + total (keep (is_equal o b.rate) before))
          (sym e) (weigh-all o y 0 before (b ∷ rest) (omega arith))

  after_walk_lem : (before : List Bid) (b : Bid) (rest : List Bid)
      → bs ≡ before ++ (b ∷ rest)
      → cut_bid o cap bs before b ≡ after_walk o (walked o cap bs) (record { place = length before; bid = b })
  unfolding cut_bid after_walk is_walked
  after_walk_lem before b rest e = go (is_in o b) refl
    where
      go : (t : Bool) → is_in o b ≡ t → cond t (cut_above (left_of_cap o cap bs before b) b) b ≡ cond t (left_at (length before) (walked o cap bs)) b
      go true i = walked_at before b rest e i
      go false i = refl

  walked_from : (before rest : List Bid)
      → bs ≡ before ++ rest
      → cut_from o cap bs before rest ≡ map (after_walk o (walked o cap bs)) (placed_from (length before) rest)
  unfolding cut_from placed_from
  walked_from before [] e = refl
  walked_from before (b ∷ rest) e =
      ap₂ (λ (c : Bid) (l : List Bid). c ∷ l) (after_walk_lem before b rest e)
      (walked_from (before ++ (b ∷ [])) rest (e ∙ sym (append_assoc before (b ∷ []) rest))
      ∙ ap (λ (n : ℕ). map (after_walk o (walked o cap bs)) (placed_from n rest)) one_more)
    where
      one_more : length (before ++ (b ∷ [])) ≡ suc (length before)
      one_more = omega (arith, length-append before (b ∷ []))

pub walk_gives_cuts : WalkGivesCuts
unfolding walked_bids
walk_gives_cuts o cap bs h = bids_cut o cap bs h ∙ walked_from o cap bs [] bs refl
