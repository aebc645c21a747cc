-- How far one bid can push another in previews by value: the theorem of the rules, carried over the contracts. Assumes nothing.
use mathlib.Core.Path.{◌≡◌, sym, ap, ◌∙◌}
use mathlib.Core.Option.{Option, none}
use Prim.Native.Nat.{ℕ}
use native.Mathlib.Omega.{arith}
use lib.ListN.{get_or}
use Rattle.refusals.specs.Conditions.{refusal_number}
use Rattle.rules.specs.Calls as rules
use Rattle.tender.specs.declared.Tender.{Tender}
use Rattle.tender.specs.declared.Allotted.{Allotted}
use Rattle.tender.specs.Viewed.{viewed, allotted_in}
use Rattle.tender.specs.Calls.{Previews}
use Rattle.steadiness.proofs.Previews.{steady_previews_by_d}
use Rattle.steady_previews.specs.ByValue.{SteadyPreviewCalls, SteadyPreviewCallsByD}

module _ (t : Tender) (r : Allotted) (previews : Previews t r) where
  accepted : refusal_number r.answer ≡ none → (rules.preview (viewed t)).0 ≡ none
  accepted h = sym (ap (λ (x : Option ℕ × rules.Tender × rules.Allotted). x.0) previews.equal) ∙ h

  award-shown : (k : ℕ) → get_or (allotted_in r).awards k 0 ≡ get_or (rules.preview (viewed t)).2.awards k 0
  award-shown k = ap {B = ℕ} (λ (x : Option ℕ × rules.Tender × rules.Allotted). get_or x.2.awards k 0) previews.equal

pub steady_preview_calls_by_d : SteadyPreviewCallsByD
steady_preview_calls_by_d first second r r₂ place d p p₂ h h₂ lists k other =
    let within = steady_previews_by_d (viewed first) (viewed second) place d lists (accepted first r p h) (accepted second r₂ p₂ h₂) k other in
    omega (arith, within, award-shown first r p k, award-shown second r₂ p₂ k)

pub steady_preview_calls : SteadyPreviewCalls
steady_preview_calls first second r r₂ place d p p₂ h h₂ lists k other =
    let within = steady_preview_calls_by_d first second r r₂ place d p p₂ h h₂ lists k other in
    omega (arith, within)
