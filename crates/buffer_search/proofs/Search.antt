-- Laws of a search among codes that rise. Assumes nothing.
use mathlib.Core.Path.{◌≡◌, refl, sym, ap, ◌∙◌}
use mathlib.Core.Logic.{◌≢◌}
use mathlib.Core.Bool.{Bool, true, false, cond, ◌&&◌}
use mathlib.Core.List.{List, [], ◌∷◌}
use Prim.Native.Nat.{ℕ, zero, suc, ◌+◌, ◌≤◌, ◌<◌}
use native.Mathlib.Nat.{add-zero, zero-add}
use native.Mathlib.Omega.{arith}
use lib.Dec.{eqb, ltb}
use lib.ListN.{length, get_or}
use borrow.Author.Tests.{lt-ltb, ltb-true, ltb-false, eq-eqb, ne_eqb}
use Rattle.std.specs.Prelude.{Some, None}
use Rattle.laws.proofs.Tests.{and_left, and_right}
use Rattle.rules.specs.Opening.{rising}
use Rattle.rules.specs.Receiving.{Entry}
use Rattle.book.specs.Viewed.{find_from, codes_in}
use Rattle.buffer_search.specs.Search.{find_in, is_below, AllBelow, AsManyBelow}

-- codes after the first are above it
first_below : (c : ℕ) (l : List ℕ) → rising (c ∷ l) ≡ true → (j : ℕ) → j < length l → c < get_or l j 0
unfolding rising
first_below c [] r j h = absurd (omega arith)
first_below c (d ∷ l) r zero h = ltb-true c d (and_left (ltb c d) (rising (d ∷ l)) r)
first_below c (d ∷ l) r (suc j) h =
    let less = ltb-true c d (and_left (ltb c d) (rising (d ∷ l)) r) in
    let more = first_below d l (and_right (ltb c d) (rising (d ∷ l)) r) j (omega arith) in
    omega (arith, less, more)

rest_rises : (c : ℕ) (l : List ℕ) → rising (c ∷ l) ≡ true → rising l ≡ true
unfolding rising
rest_rises c [] r = refl
rest_rises c (d ∷ l) r = and_right (ltb c d) (rising (d ∷ l)) r

-- a later code is above
later_above : (l : List ℕ) → rising l ≡ true → (i j : ℕ) → i < j → j < length l → get_or l i 0 < get_or l j 0
later_above [] r i j h k = absurd (omega arith)
later_above (c ∷ l) r i zero h k = absurd (omega arith)
later_above (c ∷ l) r zero (suc j) h k = first_below c l r j (omega arith)
later_above (c ∷ l) r (suc i) (suc j) h k = later_above l (rest_rises c l r) i j (omega arith) (omega arith)

-- one that is not earlier is not below
later_least : (l : List ℕ) → rising l ≡ true → (i j : ℕ) → i ≤ j → j < length l → get_or l i 0 ≤ get_or l j 0
later_least l r i j h k = go (ltb i j) refl
  where
    go : (t : Bool) → ltb i j ≡ t → get_or l i 0 ≤ get_or l j 0
    go true e = let less = later_above l r i j (ltb-true i j e) k in omega (arith, less)
    go false e =
        let same : i ≡ j = omega (arith, ltb-false i j e) in
        rw same (omega arith)

-- none to begin with
pub none_passed : (l : List ℕ) (c : ℕ) → AllBelow l 0 c
none_passed l c = record { inside = omega arith; before = λ i k. absurd (omega arith) }

module _ (l : List ℕ) (r : rising l ≡ true) (c : ℕ) where
  -- the one at an index is below, so all up to it are
  pub passed : (at next : ℕ) → suc at ≡ next → is_below l at c ≡ true → AllBelow l next c
  passed at next e h =
      let there = ltb-true at (length l) (and_left (ltb at (length l)) (ltb (get_or l at 0) c) h) in
      let less = ltb-true (get_or l at 0) c (and_right (ltb at (length l)) (ltb (get_or l at 0) c) h) in
      record {
        inside = omega (arith, e, there);
        before = λ i k. let least = later_least l r i at (omega (arith, e)) there in omega (arith, least, less);
      }

  -- it is not, so none from it on is
  pub not_passed : (at : ℕ) → AllBelow l at c → is_below l at c ≡ false → AsManyBelow l at c
  not_passed at b h =
      record {
        first = b;
        past = λ i k n. let least = later_least l r at i k n in omega (arith, least, at_least (omega (arith, k, n)));
      }
    where
      at_least : at < length l → c ≤ get_or l at 0
      at_least there = ltb-false (get_or l at 0) c (sym (ap (λ (t : Bool). t && ltb (get_or l at 0) c) (lt-ltb at (length l) there)) ∙ h)

-- a code that stands at an index, those before it being others
found_at : (l : List ℕ) (c at i : ℕ) → at < length l → ((k : ℕ) → k < at → get_or l k 0 ≢ c) → get_or l at 0 ≡ c → find_in l c i ≡ Some (i + at)
unfolding find_in
found_at [] c at i h others e = absurd (omega arith)
found_at (d ∷ l) c zero i h others e = rw (eq-eqb d c e) (ap Some (sym (add-zero i)))
found_at (d ∷ l) c (suc at) i h others e =
    let next : suc i + at ≡ i + suc at = omega arith in
    rw (ne_eqb d c (others 0 (omega arith))) (found_at l c at (suc i) (omega arith) (λ k q. others (suc k) (omega arith)) e ∙ ap Some next)

-- a code that stands nowhere
nowhere : (l : List ℕ) (c i : ℕ) → ((k : ℕ) → k < length l → get_or l k 0 ≢ c) → find_in l c i ≡ None
unfolding find_in
nowhere [] c i others = refl
nowhere (d ∷ l) c i others = rw (ne_eqb d c (others 0 (omega arith))) (nowhere l c (suc i) (λ k q. others (suc k) (omega arith)))

module _ (l : List ℕ) (r : rising l ≡ true) (c at : ℕ) (b : AsManyBelow l at c) where
  pub search_found : at < length l → get_or l at 0 ≡ c → Some at ≡ find_in l c 0
  search_found h e = ap Some (sym (zero-add at)) ∙ sym (found_at l c at 0 h (λ k q same. let less = b.first.before k q in omega (arith, less, same)) e)

  pub search_past : length l ≤ at → None ≡ find_in l c 0
  search_past h = sym (nowhere l c 0 (λ k q same. let less = b.first.before k (omega arith) in omega (arith, less, same)))

  pub search_other : at < length l → get_or l at 0 ≢ c → None ≡ find_in l c 0
  search_other h other = sym (nowhere l c 0 (λ k q same. go k q same (ltb k at) refl (ltb at k) refl))
    where
      go : (k : ℕ) → k < length l → get_or l k 0 ≡ c → (s : Bool) → ltb k at ≡ s → (t : Bool) → ltb at k ≡ t → ⊥
      go k q same true e t f = let less = b.first.before k (ltb-true k at e) in omega (arith, less, same)
      go k q same false e true f =
          let least = b.past at (omega arith) h in
          let less = later_above l r at k (ltb-true at k f) q in
          omega (arith, least, less, same)
      go k q same false e false f =
          let is : k ≡ at = omega (arith, ltb-false k at e, ltb-false at k f) in
          other (ap (λ (i : ℕ). get_or l i 0) (sym is) ∙ same)

-- the entries of a book are searched by their codes
pub find_codes : (es : List Entry) (c i : ℕ) → find_from es c i ≡ find_in (codes_in es) c i
unfolding find_from find_in codes_in
find_codes [] c i = refl
find_codes (e ∷ es) c i = ap (cond (eqb e.code c) (Some i)) (find_codes es c (suc i))
