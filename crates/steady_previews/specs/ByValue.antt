-- How far one bid can push another in previews by value (document 02, S-5): their contracts, and what follows from them. Assumes nothing.
use Rattle.std.specs.Prelude.{◌≡◌, ℕ, ◌+◌, get_or}
use Rattle.std.proofs.Math.Option.{none}
use Rattle.refusals.specs.Conditions.{refusal_number}
use Rattle.tender.specs.declared.Tender.{Tender}
use Rattle.tender.specs.declared.Allotted.{Allotted}
use Rattle.tender.specs.Viewed.{viewed, allotted_in}
use Rattle.tender.specs.Calls.{Previews}
use Rattle.steadiness.specs.Steadiness.{DifferByAtMost}
use Rattle.steadiness.specs.Previews.{OneRaised}

-- two tenders previewed, neither refused, whose books after the cuts are 'equal but for one bid's amount': every other award differs by at most the
-- bound
abbrev pub SteadyPreviewCallsWithin : (ℕ → ℕ) → Type 0
SteadyPreviewCallsWithin bound =
    (first second : Tender) (previewed previewed₂ : Allotted) (place d : ℕ)
    → Previews first previewed
    → Previews second previewed₂
    → refusal_number previewed.answer ≡ none
    → refusal_number previewed₂.answer ≡ none
    → OneRaised (viewed first) (viewed second) place d
    → (k : ℕ)
    → (k ≡ place → ⊥)
    → DifferByAtMost (bound d) (get_or (allotted_in previewed).awards k 0) (get_or (allotted_in previewed₂).awards k 0)

-- 'by at most d + 1 eurocents'
abbrev pub SteadyPreviewCalls : Type 0
SteadyPreviewCalls = SteadyPreviewCallsWithin (λ d. d + 1)

-- by at most d, even
abbrev pub SteadyPreviewCallsByD : Type 0
SteadyPreviewCallsByD = SteadyPreviewCallsWithin (λ d. d)
