-- What is told of a tender in the words of a buffer. Assumes nothing.
use Rattle.std.specs.Prelude.{cond, List, [], ◌∷◌, ◌++◌, map, ℕ, ◌-◌, eqb, length, replicate}
use Rattle.std.proofs.Math.Option.{Option, none, some}
use Rattle.rules.specs.Allotment.{Bid}
use Rattle.rules.specs.Receiving.{Entry}

-- how many numbers, one for each admitted code, the numbers, and zeros up to 64 of them: 65 numbers
unfoldable pub counted_numbers : List ℕ → List ℕ
counted_numbers ns = length ns ∷ (ns ++ replicate (64 - length ns) 0)

-- the entry of a code
unfoldable pub entry_of : List Entry → ℕ → Option Entry
entry_of [] c = none
entry_of (e ∷ es) c = cond (eqb e.code c) (some e) (entry_of es c)

-- whether a time is held, and the time
abbrev pub time_numbers : Option ℕ → List ℕ
time_numbers none = 0 ∷ 0 ∷ []
time_numbers (some t) = 1 ∷ t ∷ []

-- what is held for a code: 23 numbers, 1 where it is admitted, the time, ten rates, ten amounts; all zero for a code that is not admitted
unfoldable pub held_numbers : Option Entry → List ℕ
held_numbers none = replicate 23 0
held_numbers (some e) = (1 ∷ time_numbers e.held) ++ map (λ (b : Bid). b.rate) e.bids ++ map (λ (b : Bid). b.amount) e.bids
