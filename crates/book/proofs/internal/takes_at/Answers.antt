-- `book::internal::takes_at` meets its contract. Assumes nothing.
use mathlib.Core.Path.{◌≡◌, refl, sym, ap, ◌∙◌}
use mathlib.Core.Bool.{Bool, true, false, cond, not, ◌||◌}
use mathlib.Core.Option.{none, some}
use Prim.Native.Nat.{ℕ, ◌<◌}
use native.Mathlib.Omega.{arith}
use lib.Dec.{ltb}
use lib.ListN.{get_or}
use Rattle.std.specs.Prelude.{Option, Some}
use Rattle.rules.specs.Receiving.{is_after}
use Rattle.book.specs.Viewed.{held_at, index_of, taken_at}
use Rattle.book.proofs.internal.takes_at.Goals as goal

-- the index found is below 64
below : (found : Option ℕ) (i : ℕ) → found ≡ Some i → index_of found < 64 → i < 64
below found i e h = omega (arith, h, ap index_of e)

after-held : (has : Bool) (held time : ℕ) → (not has || ltb held time) ≡ is_after time (cond has (some held) none)
unfolding is_after
after-held true held time = refl
after-held false held time = refl

pub bounds-has-at : goal.bounds-has-at
bounds-has-at c = let q = c.requires in omega (arith, q.1, below _ _ c.in-Some.is q.2)

pub offset_bounds-held-at : goal.offset_bounds-held-at
offset_bounds-held-at c = let q = c.requires in omega (arith, below _ _ c.in-Some.is q.2)

pub bounds-held-at : goal.bounds-held-at
bounds-held-at c = let q = c.requires in omega (arith, q.0, below _ _ c.in-Some.is q.2)

pub returns-in-Some : goal.returns-in-Some
unfolding held_at
returns-in-Some c =
    λ b h k. let a = c.args in
    let e = c.in-Some.is in
    let at = c.in-Some.at in
    after-held (get_or a.has.now at false) (get_or a.held.now at 0) a.time
    ∙ sym (λ i. is_after a.time (cond (get_or (k i) at false) (some (get_or (h i) at 0)) none))
    ∙ ap (λ (f : Option ℕ). taken_at b f a.time) (sym e)

pub returns-in-None : goal.returns-in-None
returns-in-None c = λ b h k. ap (λ (f : Option ℕ). taken_at b f c.args.time) (sym c.in-None.is)
