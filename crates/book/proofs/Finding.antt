-- A code is found where its entry stands. Assumes nothing.
use mathlib.Core.Path.{◌≡◌, refl, ap, ◌∙◌}
use mathlib.Core.Bool.{cond}
use mathlib.Core.List.{List, [], ◌∷◌}
use Prim.Native.Nat.{ℕ, suc}
use native.Mathlib.Numerals.{add-one}
use lib.Dec.{eqb}
use Rattle.std.specs.Prelude.{Some}
use Rattle.std.specs.List.{position_from}
use Rattle.rules.specs.Receiving.{Entry}
use Rattle.book.specs.Viewed.{find_from, codes_in}

-- an entry is found where its code first stands
pub find_codes : (es : List Entry) (c i : ℕ) → position_from (λ (x : ℕ). eqb x c) i (codes_in es) ≡ find_from es c i
unfolding find_from codes_in
find_codes [] c i = refl
find_codes (e ∷ es) c i = ap (cond (eqb e.code c) (Some i)) (ap (λ (j : ℕ). position_from (λ (x : ℕ). eqb x c) j (codes_in es)) (add-one i) ∙ find_codes es c (suc i))
