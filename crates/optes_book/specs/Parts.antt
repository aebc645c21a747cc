-- What the calls of Interface are made of; a maker needs none of it. Assumes nothing.
use Rattle.std.specs.Prelude.{◌≡◌, List, ℕ}
use Rattle.std.proofs.Math.Option.{Option}
use Rattle.envelope.specs.Refusals.{or_zero}
use Rattle.rules.specs.Calls as rules
use Rattle.optes_book.specs.Interface.{awards_told, marginal_told}

-- the number of a refusal, and what is told unless there is one
abbrev pub TellsAllotment : Option ℕ → rules.Allotted → List ℕ → List ℕ → ℕ → List ℕ → List ℕ → Type 0
TellsAllotment refusal given awards told r awards₂ told₂ =
    ◌≡◌ {A = ℕ × List ℕ × List ℕ} (r, awards₂, told₂)
    (or_zero refusal, awards_told refusal given awards, marginal_told refusal given told)
