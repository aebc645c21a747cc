-- The amounts of one counterparty that are walked before a bid in LP, by rates and places alone. Assumes nothing.
use Rattle.std.specs.Prelude.{Bool, cond, ◌||◌, ◌&&◌, List, [], ◌∷◌, ℕ, suc, ◌+◌, ltb, eqb}
use Rattle.rules.specs.Allotment.{Bid}

-- 'best first, equal rates by place': whether the bid at place j is walked before one at rate r and place i
abbrev pub walked_before : ℕ → ℕ → ℕ → Bid → Bool
walked_before r i j b = ltb r b.rate || (eqb b.rate r && ltb j i)

-- the total of those that are, where the places begin with j
unfoldable pub walked : ℕ → ℕ → ℕ → List Bid → ℕ
walked r i j [] = 0
walked r i j (b ∷ bs) = cond (walked_before r i j b) b.amount 0 + walked r i (suc j) bs
