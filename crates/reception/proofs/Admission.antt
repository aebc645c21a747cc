-- A code is admitted where the search for it finds an entry. Assumes nothing.
use mathlib.Core.Path.{◌≡◌, refl, sym, ap, ◌∙◌}
use mathlib.Core.Bool.{Bool, true, false, cond, ◌||◌}
use mathlib.Core.List.{List, [], ◌∷◌}
use Prim.Native.Nat.{ℕ, suc}
use lib.Dec.{eqb}
use borrow.Author.Tests.{eqb-true, eqb-false, eq-eqb, ne_eqb}
use Rattle.std.specs.Prelude.{Some}
use Rattle.rules.specs.Opening.{any}
use Rattle.rules.specs.Receiving.{Entry}
use Rattle.book.specs.Viewed.{find_from, is_at, codes_in}

eqb_sym : (a b : ℕ) → eqb a b ≡ eqb b a
eqb_sym a b = go (eqb b a) refl
  where
    go : (t : Bool) → eqb b a ≡ t → eqb a b ≡ t
    go true h = eq-eqb a b (sym (eqb-true b a h))
    go false h = ne_eqb a b (λ e. eqb-false b a h (sym e))

pub admitted_is : (es : List Entry) (c i : ℕ) → any (eqb c) (codes_in es) ≡ is_at (find_from es c i)
unfolding any codes_in find_from
admitted_is [] c i = refl
admitted_is (e ∷ es) c i = ap (λ (t : Bool). t || any (eqb c) (codes_in es)) (eqb_sym c e.code) ∙ go (eqb e.code c) (admitted_is es c (suc i))
  where
    go : (t : Bool) → any (eqb c) (codes_in es) ≡ is_at (find_from es c (suc i)) → (t || any (eqb c) (codes_in es)) ≡ is_at (cond t (Some i) (find_from es c (suc i)))
    go true h = refl
    go false h = h
