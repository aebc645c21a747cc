-- The arrays of a new book, viewed as entries. Assumes nothing.
use mathlib.Core.Path.{◌≡◌, refl, sym, ap, ap₂, ◌∙◌}
use mathlib.Core.Bool.{Bool, true, false}
use mathlib.Core.List.{List, ◌∷◌, ◌++◌, map}
use mathlib.Core.Option.{none}
use Prim.Native.Nat.{ℕ, zero, suc, ◌+◌, ◌*◌, ◌-◌, ◌≤◌}
use native.Mathlib.Nat.{sub-zero}
use native.Mathlib.Omega.{arith}
use lib.Dec.{ltb}
use lib.ListN.{length, get_or, take, drop, replicate, get_or-replicate, get_or-eq_default, length-replicate, length-append, length-drop}
use lib.Seq.{length-take-le, drop-cons, take_all, take_at}
use borrow.Author.Tests.{ltb-true, ltb-false}
use Rattle.rules.specs.Allotment.{no_bid}
use Rattle.rules.specs.Receiving.{new_entry, new_book}
use Rattle.book.specs.declared.Book.{Book}
use Rattle.bids.specs.Columns.{no_rate, no_amount, bids_from}
use Rattle.book.specs.Viewed.{held_at, entry_at, entries_from, up_to64, first64, viewed}

pub all_default : {A : Type 0} (n i : ℕ) (a : A) → get_or (replicate n a) i a ≡ a
all_default n i a = go (ltb i n) refl
  where
    go : (t : Bool) → ltb i n ≡ t → get_or (replicate n a) i a ≡ a
    go true e = get_or-replicate n i a a (ltb-true i n e)
    go false e = get_or-eq_default (replicate n a) a (omega (arith, ltb-false i n e, length-replicate n a))

-- at most 64, and at most the number
pub up_to64_small : (n : ℕ) → (up_to64 n ≤ 64) × (up_to64 n ≤ n)
unfolding up_to64
up_to64_small n = go (ltb n 64) refl
  where
    go : (t : Bool) → ltb n 64 ≡ t → (up_to64 n ≤ 64) × (up_to64 n ≤ n)
    go true e = rw e (omega (arith, ltb-true n 64 e), omega arith)
    go false e = rw e (omega arith, omega (arith, ltb-false n 64 e))

-- the arrays of a new book
abbrev pub empty_book : List ℕ → ℕ → List ℕ → Book
empty_book codes n limits =
    record {
      codes = codes;
      n = n;
      limits = limits;
      held = replicate 64 0;
      has = replicate 64 false;
      rates = replicate 640 no_rate;
      amounts = replicate 640 no_amount;
    }

bids_none : (i d : ℕ) → bids_from (replicate 640 no_rate) (replicate 640 no_amount) i d ≡ replicate d no_bid
unfolding bids_from
bids_none i zero = refl
bids_none i (suc d) = λ t. record { rate = (all_default 640 i no_rate t).0; amount = (all_default 640 i no_amount t).0 } ∷ bids_none (suc i) d t

module _ (codes : List ℕ) (n : ℕ) (limits : List ℕ) where
  new_entry_lem : (i : ℕ) → entry_at (empty_book codes n limits) i ≡ new_entry (get_or codes i 0)
  unfolding entry_at held_at new_entry
  new_entry_lem i = rw (all_default 64 i false) (λ t. record { code = get_or codes i 0; held = none; bids = bids_none (10 * i) 10 t })

  new_entries : (i d : ℕ) → i + d ≤ length codes → entries_from (empty_book codes n limits) i d ≡ map new_entry (take d (drop i codes))
  unfolding entries_from
  new_entries i zero h = refl
  new_entries i (suc d) h = rw (drop-cons codes i 0 (omega arith)) (λ t. new_entry_lem i t ∷ new_entries (suc i) d (omega arith) t)

-- a number at most 64 stays
pub up_to64_stays : (n : ℕ) → n ≤ 64 → up_to64 n ≡ n
unfolding up_to64
up_to64_stays n h = go (ltb n 64) refl
  where
    go : (t : Bool) → ltb n 64 ≡ t → up_to64 n ≡ n
    go true e = rw e
    go false e = rw e (omega (arith, ltb-false n 64 e))

first_64 : (l : List ℕ) → take (up_to64 (length l)) l ≡ take 64 l
unfolding up_to64
first_64 l = go (ltb (length l) 64) refl
  where
    go : (t : Bool) → ltb (length l) 64 ≡ t → take (up_to64 (length l)) l ≡ take 64 l
    go true e = rw e (take_all (length l) l (omega arith) ∙ sym (take_all 64 l (omega (arith, ltb-true (length l) 64 e))))
    go false e = rw e

-- the first codes stored, and no more than 64 of them
pub viewed_empty : (codes kept old limits : List ℕ) (n i : ℕ) → n ≡ up_to64 (length codes) → length old ≡ 64 → i ≡ n → kept ≡ take i codes ++ drop i old
    → viewed (empty_book kept n limits) ≡ new_book (take 64 codes)
unfolding viewed new_book
viewed_empty codes kept old limits n i e len end k' =
    ap (entries_from (empty_book kept n limits) 0) (up_to64_stays n small.0)
    ∙ new_entries kept n limits 0 n (omega (arith, filled, small.0))
    ∙ ap (map new_entry) (ap (take n) k ∙ take_at (take n codes) (drop n old) n taken ∙ ap (λ (m : ℕ). take m codes) e ∙ first_64 codes)
  where
    k : kept ≡ take n codes ++ drop n old
    k = k' ∙ ap (λ (m : ℕ). take m codes ++ drop m old) end

    small : (n ≤ 64) × (n ≤ length codes)
    small = rw e (up_to64_small (length codes))

    taken : length (take n codes) ≡ n
    taken = length-take-le n codes small.1

    filled : length kept ≡ 64
    filled = ap length k ∙ length-append (take n codes) (drop n old) ∙ omega (arith, taken, length-drop n old, small.0)

-- what is left of zeros
zeros_left : (m n : ℕ) → drop {A = ℕ} m (replicate n 0) ≡ replicate (n - m) 0
zeros_left zero n = ap (λ (k : ℕ). replicate {A = ℕ} k 0) (sym (sub-zero n))
zeros_left (suc m) zero =
    let e : 0 ≡ 0 - suc m = omega arith in
    ap (λ (k : ℕ). replicate {A = ℕ} k 0) e
zeros_left (suc m) (suc n) =
    let e : n - m ≡ suc n - suc m = omega arith in
    zeros_left m n ∙ ap (λ (k : ℕ). replicate {A = ℕ} k 0) e

pub zeros_after : (m n : ℕ) → m ≤ n → drop {A = ℕ} m (replicate n 0) ≡ replicate (n - m) 0
zeros_after m n h = zeros_left m n

left_of_64 : (n : ℕ) → 64 - up_to64 n ≡ 64 - n
unfolding up_to64
left_of_64 n = go (ltb n 64) refl
  where
    go : (t : Bool) → ltb n 64 ≡ t → 64 - up_to64 n ≡ 64 - n
    go true e = rw e
    go false e = rw e (omega (arith, ltb-false n 64 e))

-- the first limits kept, and zeros past them
pub limits_kept : (limits : List ℕ) → take 64 limits ++ drop (length limits) (replicate 64 0) ≡ first64 limits
unfolding first64
limits_kept limits = ap (λ (l : List ℕ). take 64 limits ++ l) (zeros_left (length limits) 64)

-- the first codes kept, and no more than 64 of them
pub codes_kept : (codes kept limits : List ℕ) (n : ℕ) → n ≡ up_to64 (length codes) → kept ≡ take 64 codes ++ drop (length codes) (replicate 64 0) → viewed (empty_book kept n limits) ≡ new_book (take 64 codes)
codes_kept codes kept limits n e k =
    let zeros = replicate {A = ℕ} 64 0 in
    let past : drop (length codes) zeros ≡ drop (up_to64 (length codes)) zeros = zeros_left (length codes) 64 ∙ ap (λ (m : ℕ). replicate {A = ℕ} m 0) (sym (left_of_64 (length codes))) ∙ sym (zeros_left (up_to64 (length codes)) 64) in
    viewed_empty codes kept zeros limits n n e (length-replicate {A = ℕ} 64 0) refl
    (k ∙ ap₂ (λ (x y : List ℕ). x ++ y) (sym (first_64 codes)) past ∙ ap (λ (m : ℕ). take m codes ++ drop m zeros) (sym e))

-- as many limits as codes are kept whole
pub limits-whole : (limits : List ℕ) (n : ℕ) → length limits ≡ n → n ≤ 64 → take (up_to64 n) (first64 limits) ≡ limits
unfolding first64
limits-whole limits n e h =
    ap (λ (m : ℕ). take m (take 64 limits ++ replicate (64 - length limits) 0)) (up_to64_stays n h)
    ∙ ap (λ (l : List ℕ). take n (l ++ replicate (64 - length limits) 0)) (take_all 64 limits (omega (arith, e, h)))
    ∙ take_at limits (replicate (64 - length limits) 0) n e

-- a list of at most 64 codes is taken whole
pub new_whole : (codes : List ℕ) → length codes ≤ 64 → new_book (take 64 codes) ≡ new_book codes
new_whole codes h = ap new_book (take_all 64 codes h)
