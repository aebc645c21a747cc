-- How a call is refused (document 01, 'What a call refuses'). Assumes nothing.
use Rattle.std.specs.Prelude.{Bool, cond, List, [], ◌∷◌, ℕ}
use Rattle.std.proofs.Math.Option.{Option, none, some}

-- 'A call is refused exactly when one of its conditions holds, and returns the number of the first'
unfoldable pub first_holding : List (ℕ × Bool) → Option ℕ
first_holding [] = none
first_holding (c ∷ conditions) = cond c.1 (some c.0) (first_holding conditions)

-- 'tender and buffers stay': what stands after a call, of what stood before it and what the call makes of it
abbrev pub unless_refused : {A : Type 0} → Option ℕ → A → A → A
unless_refused (some n) old new = old
unless_refused none old new = new

-- the number of a refusal, and zero where there is none
abbrev pub or_zero : Option ℕ → ℕ
or_zero none = 0
or_zero (some n) = n
