-- A search among codes that rise. Assumes nothing.
use Rattle.std.specs.Prelude.{Bool, cond, ◌&&◌, List, [], ◌∷◌, ℕ, suc, ◌≤◌, ◌<◌, eqb, ltb, length, get_or, Option, Some, None}

-- where a code first stands, the codes counted from i on
unfoldable pub find_in : List ℕ → ℕ → ℕ → Option ℕ
find_in [] c i = None
find_in (d ∷ codes) c i = cond (eqb d c) (Some i) (find_in codes c (suc i))

-- one stands at an index and is below a code
abbrev pub is_below : List ℕ → ℕ → ℕ → Bool
is_below codes at code = ltb at (length codes) && ltb (get_or codes at 0) code

-- all before an index are below a code
pub record AllBelow (codes : List ℕ) (at code : ℕ) : Type 0 where
  pub inside : at ≤ length codes
  pub before : (i : ℕ) → i < at → get_or codes i 0 < code

-- as many are below a code: all before the index, and none from it on
pub record AsManyBelow (codes : List ℕ) (at code : ℕ) : Type 0 where
  pub first : AllBelow codes at code
  pub past : (i : ℕ) → at ≤ i → i < length codes → code ≤ get_or codes i 0
