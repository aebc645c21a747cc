-- The lists that the loops over the bids fill, bid by bid, and what they count. Assumes nothing.
use mathlib.Core.Path.{◌≡◌, refl, sym, ap, ◌∙◌}
use mathlib.Core.Bool.{Bool, true, false, ◌&&◌, cond}
use mathlib.Core.List.{List, [], ◌∷◌, ◌++◌, append-nil, append_assoc}
use Prim.Native.Nat.{ℕ, zero, suc, ◌+◌, ◌-◌, ◌≤◌, ◌<◌}
use native.Mathlib.Nat.{not-suc-le-zero, le_of_suc-le-suc}
use native.Mathlib.Numerals.{add-one}
use native.Mathlib.Omega.{arith}
use lib.Dec.{ltb}
use lib.ListN.{length, get_or, set, take, drop, length-map, length-set, get_or-map, drop_of_length-le}
use lib.Seq.{take-suc, ext_get_or}
use borrow.Author.Tests.{ltb-false}
use Rattle.laws.proofs.Arrays.{fill_more, fill_all}
use Rattle.rules.specs.Allotment.{Bid, no_bid, filled, Offer, is_in, is_equal, keep}
use Rattle.rules.specs.Allotment.{total, total_better, total_equal, award, awards_from, awards}
use Rattle.rules.proofs.Links.{length-awards}
use Rattle.rules.proofs.Kept.{total_cons, length_last}
use Rattle.bids.proofs.SideBySide.{member_at, drop-at}
use Rattle.offer.proofs.Sums.{keep_le}
use Rattle.awards.specs.LastRate.{served, served_all, shared_at, served_in, cents_in, LastRate, ServesAll}
use Rattle.awards.proofs.Award.{none_left, served_le, bid_served, bid-award}

-- an array that a loop fills from the front: the first i entries are those of `src`, the others the old ones
abbrev pub FilledTo : List ℕ → List ℕ → List ℕ → ℕ → Type 0
FilledTo src old cur i = (length cur ≡ length old) × (cur ≡ take i src ++ drop i old)

fill_next : (src dst : List ℕ) (i : ℕ) → i ≤ length src → i < length dst → get_or (take i src ++ drop i dst) i 0 ≡ get_or dst i 0
fill_next src dst zero h k = refl
fill_next src [] (suc i) h k = absurd (not-suc-le-zero k)
fill_next [] (y ∷ ys) (suc i) h k = absurd (not-suc-le-zero h)
fill_next (x ∷ xs) (y ∷ ys) (suc i) h k = fill_next xs ys i (le_of_suc-le-suc h) (le_of_suc-le-suc k)

module _ (src old cur : List ℕ) (i : ℕ) (same : length old ≡ length src) (f : FilledTo src old cur i) where
  -- the entry at i is still the old one
  pub filled_next : i < length src → get_or cur i 0 ≡ get_or old i 0
  filled_next h = ap (λ (l : List ℕ). get_or l i 0) f.1 ∙ fill_next src old i (omega arith) (omega arith)

  -- one turn: the entry at i is stored
  pub filled_more : i < length src → (v : ℕ) → v ≡ get_or src i 0 → FilledTo src old (set cur i v) (i + 1)
  filled_more h v e = (length-set cur i v ∙ f.0, fill_more src old cur i v 0 h (omega arith) e f.1)

  -- all entries are stored
  pub filled-all : length src ≤ i → cur ≡ src
  filled-all h = f.1 ∙ fill_all src old i h (omega arith)

-- awards

award_from : (o : Offer) (bs before rest : List Bid) (k : ℕ) → k < length rest
    → get_or (awards_from o bs before rest) k 0 ≡ award o bs (before ++ take k rest) (get_or rest k no_bid)
unfolding awards_from
award_from o bs before [] k h = absurd (omega arith)
award_from o bs before (b ∷ rest) zero h = rw append-nil
award_from o bs before (b ∷ rest) (suc k) h = award_from o bs (before ++ (b ∷ [])) rest k (omega arith) ∙ rw append_assoc

-- the award at an index: the bids before it are the first ones
award_is : (o : Offer) (bs : List Bid) (k : ℕ) → k < length bs → get_or (awards o bs) k 0 ≡ award o bs (take k bs) (get_or bs k no_bid)
unfolding awards
award_is o bs k h = award_from o bs [] bs k h

pub length-served : (o : Offer) (r b e : ℕ) (bs : List Bid) → length (served_all o r b e bs) ≡ length bs
unfolding served_all
length-served o r b e bs = length-map bs (served o r b e)

-- what the list of the served holds at an index
served_is : (o : Offer) (r b e : ℕ) (bs : List Bid) (i : ℕ) → get_or (served_all o r b e bs) i 0 ≡ served o r b e (get_or bs i no_bid)
unfolding served_all served is_in filled
served_is o r b e bs i = get_or-map (served o r b e) bs i no_bid

module _ (o : Offer) (bs : List Bid) (r : ℕ) (last : LastRate o bs r) where
  -- the award at an index: what the bid is served, and a cent where some are left
  award_with : (i : ℕ) → i < length bs
      → get_or (awards o bs) i 0
      ≡ bid_served o bs r (get_or bs i no_bid) + cond (is_equal o r (get_or bs i no_bid) && ltb 0 (cents_in o bs r - length (keep (is_equal o r) (take i bs)))) 1 0
  award_with i h = award_is o bs i h ∙ bid-award o bs r last (take i bs) (get_or bs i no_bid) (member_at bs i h)

  -- where no cents are left, what all are served are the awards
  pub no_cents : cents_in o bs r ≡ 0 → served_in o bs r ≡ awards o bs
  no_cents none = ext_get_or 0 (served_in o bs r) (awards o bs) (long ∙ sym (length-awards o bs)) (λ i h. same i (omega (arith, long)))
    where
      long : length (served_in o bs r) ≡ length bs
      long = length-served o r (total_better o bs r) (total_equal o bs r) bs

      no_cent : (t : Bool) → ◌≡◌ {A = ℕ} (cond (t && false) 1 0) 0
      no_cent true = refl
      no_cent false = refl

      same : (i : ℕ) → i < length bs → get_or (served_in o bs r) i 0 ≡ get_or (awards o bs) i 0
      same i h =
          let b = get_or bs i no_bid in
          let before = length (keep (is_equal o r) (take i bs)) in
          let left : ltb 0 (cents_in o bs r - before) ≡ false = ap (λ (n : ℕ). ltb 0 (n - before)) none ∙ none_left before in
          omega (
            arith,
            served_is o r (total_better o bs r) (total_equal o bs r) bs i,
            award_with i h,
            ap {B = ℕ} (λ (t : Bool). cond (is_equal o r b && t) 1 0) left,
            no_cent (is_equal o r b),
          )

-- an amount is within the total
amount-within : (bs : List Bid) (i : ℕ) → (get_or bs i no_bid).amount ≤ total bs
unfolding total
amount-within [] i = omega arith
amount-within (b ∷ bs) zero = omega arith
amount-within (b ∷ bs) (suc i) = omega (arith, amount-within bs i)

shared-total : (o : Offer) (r b e : ℕ) (xs : List Bid) → shared_at o r b e xs ≤ total (keep (is_equal o r) xs)
unfolding shared_at total keep
shared-total o r b e [] = omega arith
shared-total o r b e (x ∷ xs) = omega (arith, total_cons (is_equal o r) x xs, go (is_equal o r x), shared-total o r b e xs)
  where
    go : (t : Bool) → cond t (served o r b e x) 0 ≤ cond t x.amount 0
    go true = served_le o r b e x
    go false = omega arith

-- what those at the last rate are served is within the whole
shared-within : (o : Offer) (r b e : ℕ) (bs : List Bid) → shared_at o r b e bs ≤ total bs
shared-within o r b e bs = omega (arith, shared-total o r b e bs, keep_le (is_equal o r) bs)

shared_end : (o : Offer) (r b e i : ℕ) (bs : List Bid) → length bs ≤ i → shared_at o r b e (drop i bs) ≡ 0
unfolding shared_at
shared_end o r b e i bs h = rw (drop_of_length-le bs h) refl

-- the first i bids are served, and what those of them at the last rate are served together and what the rest of them will be are the whole
abbrev pub ServedTo : Offer → ℕ → ℕ → ℕ → List Bid → List ℕ → List ℕ → ℕ → ℕ → Type 0
ServedTo o r b e bs old cur shared i = FilledTo (served_all o r b e bs) old cur i × (shared + shared_at o r b e (drop i bs) ≡ shared_at o r b e bs)

-- the first i awards have their cents, and `left` of the cents are left
abbrev pub CentsTo : Offer → ℕ → ℕ → List Bid → List ℕ → List ℕ → ℕ → ℕ → Type 0
CentsTo o r cents bs old cur left i = FilledTo (awards o bs) old cur i × (left ≡ cents - length (keep (is_equal o r) (take i bs)))

module _ (bs : List Bid) (o : Offer) (r : ℕ) where
  -- the loop that serves all bids
  module _ (b e : ℕ) (old : List ℕ) (same : length old ≡ length bs) where
    long_served : length (served_all o r b e bs) ≡ length bs
    long_served = length-served o r b e bs

    module _ (cur : List ℕ) (shared i : ℕ) (s : ServedTo o r b e bs old cur shared i) where
      -- one more bid, served v, of which w is added to what those at the last rate are served
      pub serving_more : (x : Bid) (v w : ℕ) → i < length bs → x ≡ get_or bs i no_bid → v ≡ served o r b e x → w ≡ cond (is_equal o r x) v 0
          → ServedTo o r b e bs old (set cur i v) (shared + w) (i + 1)
      unfolding shared_at
      serving_more x v w h is p q =
          let here : v ≡ served o r b e (get_or bs i no_bid) = p ∙ ap (served o r b e) is in
          let next = ap (shared_at o r b e) (drop-at bs i h) in
          let added = q ∙ ap (λ (y : Bid). cond (is_equal o r y) v 0) is ∙ ap (λ (n : ℕ). cond (is_equal o r (get_or bs i no_bid)) n 0) here in
          (filled_more (served_all o r b e bs) old cur i (same ∙ sym long_served) s.0 (omega (arith, long_served)) v (here ∙ sym (served_is o r b e bs i)), omega (arith, s.1))

      -- the sum is within the whole
      pub serving_le : shared ≤ total bs
      serving_le = omega (arith, s.1, shared-within o r b e bs)

      pub serving_all : length bs ≤ i → ServesAll o r b e bs cur shared
      serving_all h =
          record {
            awards_are = filled-all (served_all o r b e bs) old cur i (same ∙ sym long_served) s.0 (omega (arith, long_served));
            shared_is = omega (arith, s.1, shared_end o r b e i bs h);
          }

  -- one bid more, where they are counted
  length_more : (p : Bid → Bool) (i : ℕ) → i < length bs
      → length (keep p (take (i + 1) bs)) ≡ length (keep p (take i bs)) + cond (p (get_or bs i no_bid)) 1 0
  length_more p i h =
      ap (λ (n : ℕ). length (keep p (take n bs))) (add-one i)
      ∙ ap (λ (l : List Bid). length (keep p l)) (take-suc bs i no_bid h)
      ∙ length_last p (take i bs) (get_or bs i no_bid)

  -- the loop that adds the cents to what all are served
  module _ (is_last : LastRate o bs r) (cents : ℕ) (all : cents ≡ cents_in o bs r) (old : List ℕ) (was : old ≡ served_in o bs r) where
    pub long_old : length old ≡ length bs
    long_old = ap length was ∙ length-served o r (total_better o bs r) (total_equal o bs r) bs

    long_awards : length (awards o bs) ≡ length bs
    long_awards = length-awards o bs

    module _ (cur : List ℕ) (left i : ℕ) (s : CentsTo o r cents bs old cur left i) (h : i < length bs) where
      -- the entry at i is still what its bid was served
      still_served : get_or cur i 0 ≡ bid_served o bs r (get_or bs i no_bid)
      still_served =
          filled_next (awards o bs) old cur i (long_old ∙ sym long_awards) s.0 (omega (arith, long_awards))
          ∙ ap (λ (xs : List ℕ). get_or xs i 0) was
          ∙ served_is o r (total_better o bs r) (total_equal o bs r) bs i

      -- a cent more is within the whole and one
      pub served-within : get_or cur i 0 ≤ total bs
      served-within = omega (arith, still_served, served_le o r (total_better o bs r) (total_equal o bs r) (get_or bs i no_bid), amount-within bs i)

      -- one more bid, which gets c
      module _ (x : Bid) (is : x ≡ get_or bs i no_bid) (c : ℕ) (told : c ≡ cond (is_equal o r x && ltb 0 left) 1 0) where
        abbrev b : Bid
        b = get_or bs i no_bid

        e : c ≡ cond (is_equal o r b && ltb 0 left) 1 0
        e = told ∙ ap (λ (y : Bid). cond (is_equal o r y && ltb 0 left) 1 0) is

        -- what the bid was served and its cent make its award
        award-cent : get_or cur i 0 + c ≡ get_or (awards o bs) i 0
        award-cent =
            let before = length (keep (is_equal o r) (take i bs)) in
            ap (λ (n : ℕ). n + c) still_served
            ∙ sym
            (award_with o bs r is_last i h
            ∙ ap (λ (k : ℕ). bid_served o bs r b + cond (is_equal o r b && ltb 0 k) 1 0) (ap (λ (k : ℕ). k - before) (sym all) ∙ sym s.1)
            ∙ ap (λ (k : ℕ). bid_served o bs r b + k) (sym e))

        -- the cents left after it
        cents-after : left - c ≡ cents - length (keep (is_equal o r) (take (i + 1) bs))
        cents-after = go (is_equal o r b) (ltb 0 left) refl e (length_more (is_equal o r) i h)
          where
            go : (u t : Bool) → ltb 0 left ≡ t → c ≡ cond (u && t) 1 0
                → length (keep (is_equal o r) (take (i + 1) bs)) ≡ length (keep (is_equal o r) (take i bs)) + cond u 1 0
                → left - c ≡ cents - length (keep (is_equal o r) (take (i + 1) bs))
            go true true et ec l = omega (arith, s.1)
            go true false et ec l = omega (arith, ltb-false, s.1)
            go false t et ec l = omega (arith, s.1)

        pub cents_more : CentsTo o r cents bs old (set cur i (get_or cur i 0 + c)) (left - c) (i + 1)
        cents_more = (filled_more (awards o bs) old cur i (long_old ∙ sym long_awards) s.0 (omega (arith, long_awards)) (get_or cur i 0 + c) award-cent, cents-after)

    pub cents-all : (cur : List ℕ) (left i : ℕ) → CentsTo o r cents bs old cur left i → length bs ≤ i → cur ≡ awards o bs
    cents-all cur left i s h = filled-all (awards o bs) old cur i (long_old ∙ sym long_awards) s.0 (omega (arith, long_awards))
