-- `buffer_search::internal::takes` meets its contract. Assumes nothing.
use mathlib.Core.Path.{◌≡◌, refl, sym, ap, ◌∙◌}
use mathlib.Core.Bool.{Bool, true, false, cond, ◌||◌}
use mathlib.Core.Option.{none, some}
use Prim.Native.Nat.{ℕ, ◌+◌, ◌<◌}
use native.Mathlib.Omega.{arith}
use lib.Dec.{eqb, ltb}
use lib.ListN.{get_or}
use borrow.Author.Tests.{eqb-true, eqb-false, lt-ltb, le-ltb}
use Rattle.std.specs.Prelude.{Option, Some}
use Rattle.rules.specs.Receiving.{is_after}
use Rattle.book.specs.Viewed.{index_of, taken_at}
use Rattle.buffer.specs.Words.{book_in}
use Rattle.buffer.proofs.Words.{held_at_lem}
use Rattle.buffer_search.proofs.internal.takes.Goals as goal

-- the index found is below 64
below : (found : Option ℕ) (i : ℕ) → found ≡ Some i → index_of found < 64 → i < 64
below found i e h = omega (arith, h, ap index_of e)

-- a word that is zero is no flag
after-held : (flag held time : ℕ) → (eqb flag 0 || ltb held time) ≡ is_after time (cond (ltb 0 flag) (some held) none)
unfolding is_after
after-held flag held time = go (eqb flag 0) refl
  where
    go : (t : Bool) → eqb flag 0 ≡ t → (t || ltb held time) ≡ is_after time (cond (ltb 0 flag) (some held) none)
    go true e = let zero = eqb-true flag 0 e in sym (rw (le-ltb 0 flag (omega (arith, zero))) refl)
    go false e = let other = eqb-false flag 0 e in sym (rw (lt-ltb 0 flag (above flag other)) refl)
      where
        above : (n : ℕ) → (n ≡ 0 → ⊥) → 0 < n
        above n h = omega (arith, h)

pub overflow_add-result : goal.overflow_add-result
overflow_add-result c =
    let at_64 : c.in-Some.at < 64 = below _ _ c.in-Some.is c.requires.1 in
    omega (arith, at_64)

pub offset_bounds-words-at : goal.offset_bounds-words-at
offset_bounds-words-at c =
    let at_64 : c.in-Some.at < 64 = below _ _ c.in-Some.is c.requires.1 in
    omega (arith, at_64)

pub bounds-words-at : goal.bounds-words-at
bounds-words-at c =
    let at_64 : c.in-Some.at < 64 = below _ _ c.in-Some.is c.requires.1 in
    omega (arith, at_64, c.requires.0)

pub overflow_add-result-in-Some : goal.overflow_add-result-in-Some
overflow_add-result-in-Some c =
    let at_64 : c.in-Some.at < 64 = below _ _ c.in-Some.is c.requires.1 in
    omega (arith, at_64)

pub offset_bounds-words-at-in-Some : goal.offset_bounds-words-at-in-Some
offset_bounds-words-at-in-Some c =
    let at_64 : c.in-Some.at < 64 = below _ _ c.in-Some.is c.requires.1 in
    omega (arith, at_64)

pub bounds-words-at-in-Some : goal.bounds-words-at-in-Some
bounds-words-at-in-Some c =
    let at_64 : c.in-Some.at < 64 = below _ _ c.in-Some.is c.requires.1 in
    omega (arith, at_64, c.requires.0)

pub returns-in-Some : goal.returns-in-Some
returns-in-Some c =
    let at_64 : c.in-Some.at < 64 = below _ _ c.in-Some.is c.requires.1 in
    let f = c in
    let start = f in
    let a = start.args in
    let ws = a.words.now in
    let at = f.in-Some.at in
    after-held (get_or ws (152 + at) 0) (get_or ws (88 + at) 0) a.time
    ∙ ap (is_after a.time) (sym (held_at_lem ws at start.requires.0 at_64))
    ∙ ap (λ (x : Option ℕ). taken_at (book_in ws) x a.time) (sym f.in-Some.is)
