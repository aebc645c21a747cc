-- Laws of places read. Assumes nothing.
use mathlib.Core.Path.{◌≡◌, refl, sym, ap, ap₂, subst, ◌∙◌}
use mathlib.Core.Bool.{Bool, true, false, ◌&&◌}
use mathlib.Core.List.{List, [], ◌∷◌, ◌++◌, map}
use Prim.Native.Nat.{ℕ, zero, suc, ◌+◌, ◌*◌, ◌%◌, ◌^◌, ◌<◌}
use native.Mathlib.Nat.{not-suc-le-zero, le_of_suc-le-suc, mul-suc, add_comm}
use native.Mathlib.Omega.{arith}
use lib.Dec.{eqb, lit<}
use lib.ListN.{length, take, drop, get_or, set, length-map, length-drop, get_or-map}
use lib.Seq.{drop-drop, take-nil, take-add, length-take-le, get_or-take, get_or-drop}
use borrow.Author.Tests.{eqb-true}
use Rattle.laws.proofs.Tests.{and_left, and_right}
use Rattle.laws.proofs.Arrays.{fill_more, fill_all}
use Rattle.digits.specs.Decimal.{all_digits, number_of}
use Rattle.digits.proofs.Reading.{number_shift, number_join, digits_join}
use Rattle.words.specs.Words.{low_bytes, all_small, decimal, Lowered, AfterSlash}
use Rattle.places.specs.declared.Place.{Place}
use Rattle.places.specs.Bids.{slash, formed_place, malformed, is_place, place_of, places_in}

-- a place's 24 characters as the words that the code reads: rate; slash and seven digits; eight digits
drop-take : (k : ℕ) (s : List ℕ) → drop 1 (take (suc k) s) ≡ take k (drop 1 s)
drop-take k [] = sym (take-nil k)
drop-take k (b ∷ s) = refl

after-slash : (s : List ℕ) → drop 1 (take 8 (drop 8 s)) ≡ take 7 (drop 9 s)
after-slash s = drop-take 7 (drop 8 s) ∙ ap (take 7) (drop-drop 1 8 s)

at_slash : (s : List ℕ) → get_or (take 8 (drop 8 s)) 0 0 ≡ get_or s 8 0
at_slash s = get_or-take 8 (drop 8 s) 0 0 (lit< tt) ∙ get_or-drop 8 s 0 0

fifteen : (s : List ℕ) → take 15 (drop 9 s) ≡ take 7 (drop 9 s) ++ take 8 (drop 16 s)
fifteen s = take-add 7 8 (drop 9 s) ∙ ap (λ (l : List ℕ). take 7 (drop 9 s) ++ take 8 l) (drop-drop 7 9 s)

fifteen_number : (s : List ℕ) → length s ≡ 24 → number_of (take 15 (drop 9 s)) ≡ number_of (take 7 (drop 9 s)) * 100000000 + number_of (take 8 (drop 16 s))
fifteen_number s h =
    let l : length (take 8 (drop 16 s)) ≡ 8 = length-take-le 8 (drop 16 s) (simp length-drop (omega arith)) in
    ap number_of (fifteen s) ∙ number_join 0 (take 7 (drop 9 s)) (take 8 (drop 16 s)) ∙ number_shift (number_of (take 7 (drop 9 s))) (take 8 (drop 16 s))
    ∙ ap (λ (k : ℕ). number_of (take 7 (drop 9 s)) * 10 ^ k + number_of (take 8 (drop 16 s))) l

-- what a well-formed place says of its parts
record Parts (s : List ℕ) : Type 0 where
  slashed : get_or s 8 0 ≡ slash
  rate : all_digits (take 8 s) ≡ true
  high : all_digits (take 7 (drop 9 s)) ≡ true
  low : all_digits (take 8 (drop 16 s)) ≡ true

parts_of : (s : List ℕ) → is_place s ≡ true → Parts s
unfolding is_place
parts_of s h =
    let a = and_left (eqb (get_or s 8 0) slash && all_digits (take 8 s)) (all_digits (take 15 (drop 9 s))) h in
    let b = and_right (eqb (get_or s 8 0) slash && all_digits (take 8 s)) (all_digits (take 15 (drop 9 s))) h in
    let e : (all_digits (take 7 (drop 9 s)) && all_digits (take 8 (drop 16 s))) ≡ true = sym (ap all_digits (fifteen s) ∙ digits_join (take 7 (drop 9 s)) (take 8 (drop 16 s))) ∙ b in
    record {
      slashed = eqb-true (get_or s 8 0) slash (and_left (eqb (get_or s 8 0) slash) (all_digits (take 8 s)) a);
      rate = and_right (eqb (get_or s 8 0) slash) (all_digits (take 8 s)) a;
      high = and_left (all_digits (take 7 (drop 9 s))) (all_digits (take 8 (drop 16 s))) e;
      low = and_right (all_digits (take 7 (drop 9 s))) (all_digits (take 8 (drop 16 s))) e;
    }

-- the test of the words is that of the place
apart : (a r h l : Bool) → (a && r && h && l) ≡ ((a && h) && (r && l))
apart true true h l = refl
apart true false true l = refl
apart true false false l = refl
apart false r h l = refl

crossed : (a h r l : Bool) → ((a && h) && (r && l)) ≡ ((a && r) && (h && l))
crossed true true true l = refl
crossed true true false l = refl
crossed true false true l = refl
crossed true false false l = refl
crossed false h r l = refl

pub last_three : (a r h l : Bool) → (a && r && h && l) ≡ true → (r ≡ true) × ((h ≡ true) × (l ≡ true))
last_three a r h l e =
    let three = and_left (a && r && h) l e in
    (and_right a r (and_left (a && r) h three), (and_right (a && r) h three, and_right (a && r && h) l e))

pub formed_is : (s : List ℕ) (r h l : ℕ) → Lowered (take 8 s) r → AfterSlash (take 8 (drop 8 s)) h → Lowered (take 8 (drop 16 s)) l
    → (eqb (h % 256) 0 && all_small (low_bytes 8 r) && all_small (low_bytes 8 h) && all_small (low_bytes 8 l)) ≡ is_place s
unfolding is_place
formed_is s r h l p q t =
    apart (eqb (h % 256) 0) (all_small (low_bytes 8 r)) (all_small (low_bytes 8 h)) (all_small (low_bytes 8 l))
    ∙ ap₂ ◌&&◌ (q.small ∙ ap₂ (λ (x : ℕ) (d : List ℕ). eqb x slash && all_digits d) (at_slash s) (after-slash s)) (ap₂ ◌&&◌ p.small t.small)
    ∙ crossed (eqb (get_or s 8 0) slash) (all_digits (take 7 (drop 9 s))) (all_digits (take 8 s)) (all_digits (take 8 (drop 16 s)))
    ∙ ap (λ (b : Bool). (eqb (get_or s 8 0) slash && all_digits (take 8 s)) && b) (sym (ap all_digits (fifteen s) ∙ digits_join (take 7 (drop 9 s)) (take 8 (drop 16 s))))

-- the place that the words make, and where the test fails
place_is : (s : List ℕ) → length s ≡ 24 → is_place s ≡ true → (r a b : ℕ) → r ≡ number_of (take 8 s) → a ≡ number_of (take 7 (drop 9 s)) → b ≡ number_of (take 8 (drop 16 s))
    → formed_place r (a * 100000000 + b) ≡ place_of s
unfolding place_of
place_is s l h r a b p q t = rw (h, fifteen_number s l, p, q, t)

pub words-place : (s : List ℕ) → length s ≡ 24 → is_place s ≡ true → (r h l : ℕ) → Lowered (take 8 s) r → AfterSlash (take 8 (drop 8 s)) h → Lowered (take 8 (drop 16 s)) l
    → formed_place (decimal 0 (low_bytes 8 r)) (decimal 0 (low_bytes 8 h) * 100000000 + decimal 0 (low_bytes 8 l)) ≡ place_of s
words-place s n i r h l p q t =
    let f = parts_of s i in
    place_is s n i (decimal 0 (low_bytes 8 r)) (decimal 0 (low_bytes 8 h)) (decimal 0 (low_bytes 8 l)) (p.number f.rate) (q.number (at_slash s ∙ f.slashed) (ap all_digits (after-slash s) ∙ f.high) ∙ ap number_of (after-slash s)) (t.number f.low)

-- the place of words that are zeros
pub zero_place : (s : List ℕ) → length s ≡ 24 → (r h l : ℕ) → Lowered (take 8 s) r → AfterSlash (take 8 (drop 8 s)) h → Lowered (take 8 (drop 16 s)) l
    → (eqb r 0 && eqb h 0 && eqb l 0) ≡ true → formed_place 0 0 ≡ place_of s
unfolding all_small low_bytes decimal
zero_place s n r h l p q t z =
    let both = and_left (eqb r 0 && eqb h 0) (eqb l 0) z in
    let a = eqb-true r 0 (and_left (eqb r 0) (eqb h 0) both) in
    let b = eqb-true h 0 (and_right (eqb r 0) (eqb h 0) both) in
    let c = eqb-true l 0 (and_right (eqb r 0 && eqb h 0) (eqb l 0) z) in
    let x = subst (Lowered (take 8 s)) a p in
    let y = subst (AfterSlash (take 8 (drop 8 s))) b q in
    let w = subst (Lowered (take 8 (drop 16 s))) c t in
    words-place s n (sym (formed_is s 0 0 0 x y w)) 0 0 0 x y w

pub malformed_is : (s : List ℕ) → is_place s ≡ false → malformed ≡ place_of s
unfolding place_of
malformed_is s h = rw h

-- place k of n
pub length-places : (n : ℕ) (s : List ℕ) → length (places_in n s) ≡ n
unfolding places_in
length-places zero s = refl
length-places (suc n) s = ap suc (length-places n (drop 24 s))

pub place_at : (n : ℕ) (s : List ℕ) (k : ℕ) → k < n → get_or (places_in n s) k malformed ≡ place_of (take 24 (drop (24 * k) s))
unfolding places_in
place_at zero s k h = absurd (not-suc-le-zero h)
place_at (suc n) s zero h = refl
place_at (suc n) s (suc k) h = rw (mul-suc, add_comm, ← drop-drop (24 * k) 24) (place_at n (drop 24 s) k (le_of_suc-le-suc h))

-- a column of the places: one more entry, and all of them
module _ {A : Type 0} (f : Place → A) (n : ℕ) (s : List ℕ) (dst : List A) (l : length dst ≡ n) where
  length_column : length (map f (places_in n s)) ≡ n
  length_column = length-map (places_in n s) f ∙ length-places n s

  pub column_more : (cur : List A) (k : ℕ) (p : Place) → k < n → p ≡ place_of (take 24 (drop (24 * k) s)) → cur ≡ take k (map f (places_in n s)) ++ drop k dst
      → set cur k (f p) ≡ take (k + 1) (map f (places_in n s)) ++ drop (k + 1) dst
  column_more cur k p h e c =
      let v : f p ≡ get_or (map f (places_in n s)) k (f malformed) = sym (get_or-map f (places_in n s) k malformed ∙ ap f (place_at n s k h ∙ sym e)) in
      fill_more (map f (places_in n s)) dst cur k (f p) (f malformed) (omega (arith, length_column)) (omega arith) v c

  pub column_all : take n (map f (places_in n s)) ++ drop n dst ≡ map f (places_in n s)
  column_all = fill_all (map f (places_in n s)) dst n (omega (arith, length_column)) (omega arith)
