-- The smallest award (document 02, S-6): which awards are given, and how many cents are dropped. Assumes nothing.
use Rattle.std.specs.Prelude.{Bool, cond, ◌&&◌, List, map, ℕ, ltb}
use Rattle.rules.specs.Allotment.{keep, sum}

-- 'An award above zero but below that amount, leftover cent included': an award a, and m 'a minimum allocation amount'
unfoldable pub is_dropped : ℕ → ℕ → Bool
is_dropped m a = ltb 0 a && ltb a m

-- '.. now becomes zero.'
unfoldable pub given_award : ℕ → ℕ → ℕ
given_award m a = cond (is_dropped m a) 0 a

-- 'Its cents are not handed to others': each award by itself
unfoldable pub given_awards : ℕ → List ℕ → List ℕ
given_awards m xs = map (given_award m) xs

-- 'the cents dropped, defined from the awards before this step'
unfoldable pub dropped_cents : ℕ → List ℕ → ℕ
dropped_cents m xs = sum (keep (is_dropped m) xs)
