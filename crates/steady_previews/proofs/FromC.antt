-- How far one bid can push another in previews from C: the theorem of the rules, carried over the contracts. Assumes nothing.
use mathlib.Core.Path.{◌≡◌, refl, sym, ap, ◌∙◌}
use mathlib.Core.Bool.{true}
use mathlib.Core.List.{List, [], ◌∷◌, ◌++◌}
use mathlib.Core.Option.{Option, none}
use Prim.Native.Nat.{ℕ, zero, suc, ◌-◌, ◌≤◌, ◌<◌}
use native.Mathlib.Omega.{arith}
use lib.ListN.{length, get_or, take, drop, replicate, length-append, length-take, length-replicate}
use lib.Seq.{get_or-take}
use Rattle.envelope.specs.Refusals.{unless_refused, or_zero}
use Rattle.rules.specs.Calls as rules
use Rattle.rules.specs.Calls.{is_revoked, is_announced, bids_exceed, bids_in_book, awards_given, in640, not_allotted, allotment, preview_refused, preview}
use Rattle.numbers.specs.Numbers.{in_array}
use Rattle.buffer.specs.Words.{tender_in, is_tender}
use Rattle.optes_book.specs.Interface.{awards_told, Previews}
use Rattle.optes_book.proofs.Calls.{told-all}
use Rattle.book_order.proofs.ArrivalOrder.{numbered, none_holds, zero_returned}
use Rattle.steadiness.proofs.Previews.{steady_previews_by_d}
use Rattle.steady_previews.specs.FromC.{SteadyPreviewsFromC, SteadyPreviewsFromCByD}

-- an entry before the end of a list stands where it stood in front of another list
entry-before : (xs ys : List ℕ) (k : ℕ) → k < length xs → get_or (xs ++ ys) k 0 ≡ get_or xs k 0
entry-before [] ys k h = absurd (omega arith)
entry-before (x ∷ xs) ys zero h = refl
entry-before (x ∷ xs) ys (suc k) h = entry-before xs ys k (omega arith)

-- a number for which the array has room is told
told_at : (all array : List ℕ) (k : ℕ) → k < length all → k < length array → get_or (in_array all array) k 0 ≡ get_or all k 0
unfolding in_array
told_at all array k h room =
    entry-before (take (length array) all) (drop (length all) array) k (omega (arith, length-take (length array) all))
    ∙ get_or-take (length array) all k 0 room

-- a preview that is not refused has 640 awards or more
awards_many : (t : rules.Tender) → (preview t).0 ≡ none → 640 ≤ length (preview t).2.awards
unfolding preview allotment in640
awards_many t h =
    let given = awards_given t.terms (bids_in_book t.book) in
    let all = ap (λ (l : Option ℕ). length (unless_refused l not_allotted (allotment t.terms (bids_in_book t.book))).awards) h in
    omega (arith, all, length-append given (replicate (640 - length given) 0), length-replicate {A = ℕ} (640 - length given) 0)

module _ (ws awards told given shown : List ℕ) (previews : Previews ws awards told 0 given shown) where
  found : (is_tender ws ≡ true) × (or_zero (preview (tender_in ws)).0 ≡ 0)
  found = zero_returned (λ (x : ℕ × List ℕ × List ℕ). x.0) (is_tender ws) _ _ refl (ap (λ (x : ℕ × List ℕ × List ℕ). x.0) previews)

  accepted : (preview (tender_in ws)).0 ≡ none
  unfolding preview preview_refused numbered
  accepted =
      let t = tender_in ws in
      none_holds ((8, is_revoked t.state) ∷ (15, is_announced t.state) ∷ (16, bids_exceed t) ∷ []) refl found.1

  given_is : given ≡ in_array (preview (tender_in ws)).2.awards awards
  given_is =
      ap (λ (x : ℕ × List ℕ × List ℕ). x.1) (previews ∙ sym (told-all ws {A = ℕ × List ℕ × List ℕ} _ _ found.0))
      ∙ ap (λ (l : Option ℕ). awards_told l (preview (tender_in ws)).2 awards) accepted

  award-told : (k : ℕ) → k < 640 → k < length awards → get_or given k 0 ≡ get_or (preview (tender_in ws)).2.awards k 0
  award-told k place room =
      ap (λ (l : List ℕ). get_or l k 0) given_is
      ∙ told_at (preview (tender_in ws)).2.awards awards k (omega (arith, awards_many (tender_in ws) accepted)) room

pub steady_previews_from_c_by_d : SteadyPreviewsFromCByD
steady_previews_from_c_by_d first second awards awards₂ told told₂ given given₂ shown shown₂ place d p p₂ lists k other at =
    let h = accepted first awards told given shown p in
    let h₂ = accepted second awards₂ told₂ given₂ shown₂ p₂ in
    let within = steady_previews_by_d (tender_in first) (tender_in second) place d lists h h₂ k other in
    omega (
      arith,
      within,
      award-told first awards told given shown p k at.a_place at.in_first,
      award-told second awards₂ told₂ given₂ shown₂ p₂ k at.a_place at.in_second,
    )

pub steady_previews_from_c : SteadyPreviewsFromC
steady_previews_from_c first second awards awards₂ told told₂ given given₂ shown shown₂ place d p p₂ lists k other at =
    let within = steady_previews_from_c_by_d first second awards awards₂ told told₂ given given₂ shown shown₂ place d p p₂ lists k other at in
    omega (arith, within)
