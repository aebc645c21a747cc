-- What allotting the bids in the words of a tender gives, and what a preview does. Assumes nothing.
use Rattle.std.specs.Prelude.{◌≡◌, List, ℕ, Result}
use Rattle.std.specs.Prelude as prelude
use Rattle.std.proofs.Math.Option.{Option}
use Rattle.places.specs.declared.Rate.{Rate}
use Rattle.rules.specs.Calls as rules
use Rattle.refusals.specs.declared.Refusal.{Refusal}
use Rattle.refusals.specs.Conditions.{refusal_number}
use Rattle.outcomes.specs.Allotting.{marginal_in, AllotsPlaces}
use Rattle.buffer.specs.Words.{tender_in}

-- an answer with the awards of 640 places, as document 01's
abbrev pub allotted_in : Result (prelude.Option Rate) Refusal → List ℕ → rules.Allotted
allotted_in r awards = record { awards = awards; marginal = marginal_in r }

abbrev pub AllotsWords : List ℕ → Result (Unit {0}) Refusal → Result (prelude.Option Rate) Refusal → List ℕ → Type 0
AllotsWords ws first r awards = AllotsPlaces (refusal_number first) (tender_in ws) (refusal_number r) (allotted_in r awards)

-- a preview; the words are lent to be read alone, so that the tender is the one that they hold
abbrev pub PreviewsIn : List ℕ → Result (prelude.Option Rate) Refusal → List ℕ → Type 0
PreviewsIn ws r awards = ◌≡◌ {A = Option ℕ × rules.Tender × rules.Allotted} (refusal_number r, tender_in ws, allotted_in r awards) (rules.preview (tender_in ws))
