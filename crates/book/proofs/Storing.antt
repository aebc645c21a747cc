-- Arrays with one index's values stored, viewed as entries. Assumes nothing.
use mathlib.Core.Path.{◌≡◌, refl, sym, ap, ap₂, ◌∙◌}
use mathlib.Core.Logic.{◌≢◌}
use mathlib.Core.Bool.{Bool, true, false}
use mathlib.Core.List.{List, [], ◌∷◌, ◌++◌, append_assoc, map}
use mathlib.Core.Option.{some}
use Prim.Native.Nat.{ℕ, zero, suc, ◌+◌, ◌*◌, ◌-◌, ◌≤◌, ◌<◌}
use native.Mathlib.Omega.{arith}
use native.Mathlib.Nat.{add-zero}
use native.Mathlib.Numerals.{add-one}
use lib.Dec.{ltb}
use lib.ListN.{length, get_or, set, take, drop, length-map, length-set}
use lib.Seq.{sets, get_or-set_same, get_or-set_other, take-suc, length-take-le, take_all, drop-drop, sets-eq}
use borrow.Author.Tests.{ltb-true, ltb-false}
use borrow.Rule.Slice.PartMut.{put_mid}
use Rattle.places.specs.declared.Rate.{Rate}
use Rattle.places.specs.declared.Amount.{Amount}
use Rattle.book.specs.declared.Book.{Book}
use Rattle.bids.specs.Columns.{no_rate, no_amount, bids_from}
use Rattle.book.specs.Viewed.{held_at, entry_at, entries_from, up_to64, viewed, replaced}
use Rattle.book.proofs.Mapped.{mapped_at}

module _ {A : Type 0} where
  pub get_or_sets_low : (l : List A) (i : ℕ) (vs : List A) (p : ℕ) (d : A) → p < i → get_or (sets l i vs) p d ≡ get_or l p d
  get_or_sets_low l i [] p d h = refl
  get_or_sets_low l i (v ∷ vs) p d h = get_or_sets_low (set l i v) (suc i) vs p d (omega arith) ∙ get_or-set_other l i p v d (omega arith)

  get_or_sets_high : (l : List A) (i : ℕ) (vs : List A) (p : ℕ) (d : A) → i + length vs ≤ p → get_or (sets l i vs) p d ≡ get_or l p d
  get_or_sets_high l i [] p d h = refl
  get_or_sets_high l i (v ∷ vs) p d h = get_or_sets_high (set l i v) (suc i) vs p d (omega arith) ∙ get_or-set_other l i p v d (omega arith)

  get_or_sets_in : (l : List A) (i : ℕ) (vs : List A) (j : ℕ) (d : A) → j < length vs → i + length vs ≤ length l → get_or (sets l i vs) (i + j) d ≡ get_or vs j d
  get_or_sets_in l i [] j d h k = absurd (let z : ◌≡◌ {A = ℕ} 0 1 = omega arith in omega arith)
  get_or_sets_in l i (v ∷ vs) zero d h k = rw (add-zero i) (get_or_sets_low (set l i v) (suc i) vs i d (omega arith) ∙ get_or-set_same l i v d (omega arith))
  get_or_sets_in l i (v ∷ vs) (suc j) d h k =
      ap (λ (n : ℕ). get_or (sets (set l i v) (suc i) vs) n d) next ∙ get_or_sets_in (set l i v) (suc i) vs j d (omega arith) (omega (arith, length-set l i v))
    where
      next : i + suc j ≡ suc i + j
      next = omega arith

  sets_snoc : (l : List A) (i : ℕ) (vs : List A) (v : A) → sets l i (vs ++ (v ∷ [])) ≡ set (sets l i vs) (i + length vs) v
  sets_snoc l i [] v = rw add-zero
  sets_snoc l i (x ∷ vs) v = sets_snoc (set l i x) (suc i) vs v ∙ ap (λ (n : ℕ). set (sets (set l i x) (suc i) vs) n v) next
    where
      next : suc i + length vs ≡ i + suc (length vs)
      next = omega arith

  -- one turn: the value at j is stored
  pub sets_more : (l : List A) (i : ℕ) (vs cur : List A) (j : ℕ) (d : A) → j < length vs → cur ≡ sets l i (take j vs) → set cur (i + j) (get_or vs j d) ≡ sets l i (take (j + 1) vs)
  sets_more l i vs cur j d h e =
      ap (λ (c : List A). set c (i + j) (get_or vs j d)) e
      ∙ ap (λ (n : ℕ). set (sets l i (take j vs)) (i + n) (get_or vs j d)) (sym (length-take-le j vs (omega arith)))
      ∙ sym (sets_snoc l i (take j vs) (get_or vs j d))
      ∙ ap (sets l i) (sym (take-suc vs j d h))
      ∙ ap (λ (n : ℕ). sets l i (take n vs)) (sym (add-one j))

-- the bids that were stored, and those at other indices
bids_in_lem : (rs vs : List Rate) (xs ws : List Amount) (i j d : ℕ) → j + d ≤ length vs → j + d ≤ length ws → i + length vs ≤ length rs → i + length ws ≤ length xs
    → bids_from (sets rs i vs) (sets xs i ws) (i + j) d ≡ bids_from vs ws j d
unfolding bids_from
bids_in_lem rs vs xs ws i j zero hv hw hr hx = refl
bids_in_lem rs vs xs ws i j (suc d) hv hw hr hx =
    λ t. record { rate = (get_or_sets_in rs i vs j no_rate (omega arith) hr t).0; amount = (get_or_sets_in xs i ws j no_amount (omega arith) hx t).0 }
    ∷ (ap (λ (n : ℕ). bids_from (sets rs i vs) (sets xs i ws) n d) next ∙ bids_in_lem rs vs xs ws i (suc j) d (omega arith) (omega arith) hr hx) t
  where
    next : suc (i + j) ≡ i + suc j
    next = omega arith

bids_low : (rs vs : List Rate) (xs ws : List Amount) (i p d : ℕ) → p + d ≤ i → bids_from (sets rs i vs) (sets xs i ws) p d ≡ bids_from rs xs p d
unfolding bids_from
bids_low rs vs xs ws i p zero h = refl
bids_low rs vs xs ws i p (suc d) h =
    λ t. record { rate = (get_or_sets_low rs i vs p no_rate (omega arith) t).0; amount = (get_or_sets_low xs i ws p no_amount (omega arith) t).0 }
    ∷ bids_low rs vs xs ws i (suc p) d (omega arith) t

bids_high : (rs vs : List Rate) (xs ws : List Amount) (i p d : ℕ) → i + length vs ≤ p → i + length ws ≤ p → bids_from (sets rs i vs) (sets xs i ws) p d ≡ bids_from rs xs p d
unfolding bids_from
bids_high rs vs xs ws i p zero h k = refl
bids_high rs vs xs ws i p (suc d) h k =
    λ t. record { rate = (get_or_sets_high rs i vs p no_rate h t).0; amount = (get_or_sets_high xs i ws p no_amount k t).0 }
    ∷ bids_high rs vs xs ws i (suc p) d (omega arith) (omega arith) t

-- a part that was lent and given back with other values has them stored
pub part_stored : {A : Type 0} (l vs : List A) (i w : ℕ) → w ≡ length vs → i + length vs ≤ length l → put_mid i w l vs ≡ sets l i vs
part_stored l vs i w e h = rw (e, drop-drop, sets-eq vs l i h) (sym (append_assoc (take i l) vs (drop (i + length vs) l)))

-- the arrays with a time at index k, and other rates and amounts
abbrev pub timed : Book → ℕ → ℕ → List Rate → List Amount → Book
timed b k t rs xs = record { codes = b.codes; n = b.n; limits = b.limits; held = set b.held k t; has = set b.has k true; rates = rs; amounts = xs }

-- the arrays with a time and ten places stored at index k
abbrev pub stored : Book → ℕ → ℕ → List Rate → List Amount → Book
stored b k t vs ws = timed b k t (sets b.rates (10 * k) vs) (sets b.amounts (10 * k) ws)

-- values stored as numbers, one more and all of them
module _ {A : Type 0} (number : A → ℕ) where
  pub number_stored : (l : List ℕ) (k : ℕ) (vs : List A) (cur : List ℕ) (i : ℕ) (d : A) → i < length vs → cur ≡ sets l k (take i (map number vs))
      → set cur (k + i) (number (get_or vs i d)) ≡ sets l k (take (i + 1) (map number vs))
  number_stored l k vs cur i d h e = ap (set cur (k + i)) (mapped_at number vs i d 0 h) ∙ sets_more l k (map number vs) cur i 0 (omega (arith, h, length-map vs number)) e

  pub numbers_stored : (l : List ℕ) (k : ℕ) (vs : List A) (cur : List ℕ) (i : ℕ) → length vs ≤ i → cur ≡ sets l k (take i (map number vs)) → cur ≡ sets l k (map number vs)
  numbers_stored l k vs cur i h e = e ∙ ap (sets l k) (take_all i (map number vs) (omega (arith, h, length-map vs number)))

-- the lengths that the arrays have by their types
pub record Sized (b : Book) : Type 0 where
  pub codes-length : length b.codes ≡ 64
  pub held-length : length b.held ≡ 64
  pub has_length : length b.has ≡ 64
  pub rates_length : length b.rates ≡ 640
  pub amounts_length : length b.amounts ≡ 640

module _ (b : Book) (sized : Sized b) (k t : ℕ) (vs : List Rate) (ws : List Amount) (k64 : k < 64) (hv : length vs ≡ 10) (hw : length ws ≡ 10) where
  entry-same : entry_at (stored b k t vs ws) k ≡ record { code = get_or b.codes k 0; held = some t; bids = bids_from vs ws 0 10 }
  unfolding entry_at held_at
  entry-same =
      rw (get_or-set_same b.has k true false (omega (arith, sized.has_length)), get_or-set_same b.held k t 0 (omega (arith, sized.held-length)))
      (λ i. record { code = get_or b.codes k 0; held = some t; bids = bids i })
    where
      bids : bids_from (sets b.rates (10 * k) vs) (sets b.amounts (10 * k) ws) (10 * k) 10 ≡ bids_from vs ws 0 10
      bids =
          ap (λ (n : ℕ). bids_from (sets b.rates (10 * k) vs) (sets b.amounts (10 * k) ws) n 10) (sym (add-zero (10 * k)))
          ∙ bids_in_lem b.rates vs b.amounts ws (10 * k) 0 10 (omega arith) (omega arith) (omega (arith, sized.rates_length)) (omega (arith, sized.amounts_length))

  entry_other : (j : ℕ) → j ≢ k → entry_at (stored b k t vs ws) j ≡ entry_at b j
  unfolding entry_at held_at
  entry_other j h =
      rw (get_or-set_other b.has k j true false h, get_or-set_other b.held k j t 0 h)
      (λ i. record { code = get_or b.codes j 0; held = held_at b j; bids = bids i })
    where
      go : (s : Bool) → ltb j k ≡ s → bids_from (sets b.rates (10 * k) vs) (sets b.amounts (10 * k) ws) (10 * j) 10 ≡ bids_from b.rates b.amounts (10 * j) 10
      go true e = bids_low b.rates vs b.amounts ws (10 * k) (10 * j) 10 (omega (arith, ltb-true))
      go false e = bids_high b.rates vs b.amounts ws (10 * k) (10 * j) 10 (omega (arith, ltb-false)) (omega (arith, ltb-false))

      bids : bids_from (sets b.rates (10 * k) vs) (sets b.amounts (10 * k) ws) (10 * j) 10 ≡ bids_from b.rates b.amounts (10 * j) 10
      bids = go (ltb j k) refl

  entries-past : (j d : ℕ) → k < j → entries_from (stored b k t vs ws) j d ≡ entries_from b j d
  unfolding entries_from
  entries-past j zero h = refl
  entries-past j (suc d) h = λ i. entry_other j (omega arith) i ∷ entries-past (suc j) d (omega arith) i

  entries_stored : (m j d : ℕ) → k ≡ j + m → entries_from (stored b k t vs ws) j d ≡ replaced (entries_from b j d) m t (bids_from vs ws 0 10)
  unfolding entries_from replaced entry_at
  entries_stored m j zero e = refl
  entries_stored zero j (suc d) e = λ i. here i ∷ entries-past (suc j) d (omega arith) i
    where
      at : k ≡ j
      at = omega arith

      here : entry_at (stored b k t vs ws) j ≡ record { code = get_or b.codes j 0; held = some t; bids = bids_from vs ws 0 10 }
      here = rw (← at) entry-same
  entries_stored (suc m) j (suc d) e = λ i. entry_other j (omega arith) i ∷ entries_stored m (suc j) d (omega arith) i

  -- a store at one index is one at that entry
  pub viewed_stored : viewed (stored b k t vs ws) ≡ replaced (viewed b) k t (bids_from vs ws 0 10)
  unfolding viewed
  viewed_stored = entries_stored k 0 (up_to64 b.n) (omega arith)

  -- the same of arrays whose parts were lent and given back
  pub viewed_lent : (rs : List Rate) (xs : List Amount) → rs ≡ vs → xs ≡ ws
      → viewed (timed b k t (put_mid (10 * k) (10 * k + 10 - 10 * k) b.rates rs) (put_mid (10 * k) (10 * k + 10 - 10 * k) b.amounts xs)) ≡ replaced (viewed b) k t (bids_from vs ws 0 10)
  viewed_lent rs xs er ex =
      let ten : 10 * k + 10 - 10 * k ≡ 10 = omega arith in
      ap₂ (λ r x. viewed (timed b k t r x))
      (ap (put_mid (10 * k) (10 * k + 10 - 10 * k) b.rates) er ∙ part_stored b.rates vs (10 * k) _ (ten ∙ sym hv) (omega (arith, hv, sized.rates_length)))
      (ap (put_mid (10 * k) (10 * k + 10 - 10 * k) b.amounts) ex ∙ part_stored b.amounts ws (10 * k) _ (ten ∙ sym hw) (omega (arith, hw, sized.amounts_length)))
      ∙ viewed_stored
