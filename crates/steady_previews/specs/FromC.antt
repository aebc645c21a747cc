-- How far one bid can push another in previews from C (document 02, S-5): their contracts, and what follows from them. Assumes nothing.
use Rattle.std.specs.Prelude.{◌≡◌, List, ℕ, ◌+◌, ◌<◌, length, get_or}
use Rattle.buffer.specs.Words.{tender_in}
use Rattle.optes_book.specs.Interface.{Previews}
use Rattle.steadiness.specs.Steadiness.{DifferByAtMost}
use Rattle.steadiness.specs.Previews.{OneRaised}

-- a place for which both arrays of awards have room: one of the 640 that a preview tells
pub record ToldInBoth (k : ℕ) (awards awards₂ : List ℕ) : Type 0 where
  pub a_place : k < 640
  pub in_first : k < length awards
  pub in_second : k < length awards₂

-- the words of two tenders previewed, each call returning 0, whose books after the cuts are 'equal but for one bid's amount': every other award that
-- both arrays tell differs by at most the bound
abbrev pub SteadyPreviewsFromCWithin : (ℕ → ℕ) → Type 0
SteadyPreviewsFromCWithin bound =
    (first second awards awards₂ told told₂ given given₂ shown shown₂ : List ℕ) (place d : ℕ)
    → Previews first awards told 0 given shown
    → Previews second awards₂ told₂ 0 given₂ shown₂
    → OneRaised (tender_in first) (tender_in second) place d
    → (k : ℕ)
    → (k ≡ place → ⊥)
    → ToldInBoth k awards awards₂
    → DifferByAtMost (bound d) (get_or given k 0) (get_or given₂ k 0)

-- 'by at most d + 1 eurocents'
abbrev pub SteadyPreviewsFromC : Type 0
SteadyPreviewsFromC = SteadyPreviewsFromCWithin (λ d. d + 1)

-- by at most d, even
abbrev pub SteadyPreviewsFromCByD : Type 0
SteadyPreviewsFromCByD = SteadyPreviewsFromCWithin (λ d. d)
