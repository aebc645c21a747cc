-- Previews show the awards of the bids after cuts, and so are as steady. Assumes nothing.
use mathlib.Core.Path.{◌≡◌, refl, ap, ap₂, ◌∙◌}
use mathlib.Core.List.{List, [], ◌∷◌, ◌++◌}
use mathlib.Core.Option.{Option, none}
use Prim.Native.Nat.{ℕ, zero, suc, ◌+◌, ◌-◌}
use native.Mathlib.Omega.{arith}
use lib.ListN.{length, get_or, replicate}
use Rattle.envelope.specs.Refusals.{unless_refused}
use Rattle.rules.specs.Allotment.{Bid, Offer, awards}
use Rattle.rules.specs.Opening.{offer_of}
use Rattle.rules.specs.Calls.{Tender, bids_in_book, awards_given, in640, not_allotted, allotment, preview}
use Rattle.rules.proofs.Links.{given_of_offer}
use Rattle.steadiness.specs.Previews.{bids_after_cuts, SteadyPreviews, SteadyPreviewsByD}
use Rattle.steadiness.proofs.Steadiness.{steady_by_d}

-- zeros behind a list change no entry
zeros_behind : (xs : List ℕ) (n k : ℕ) → get_or (xs ++ replicate n 0) k 0 ≡ get_or xs k 0
zeros_behind [] zero k = refl
zeros_behind [] (suc n) zero = refl
zeros_behind [] (suc n) (suc k) = zeros_behind [] n k
zeros_behind (x ∷ xs) n zero = refl
zeros_behind (x ∷ xs) n (suc k) = zeros_behind xs n k

-- the award at a place, where the preview is not refused
shown : (t : Tender) → (preview t).0 ≡ none → (k : ℕ) → get_or (preview t).2.awards k 0 ≡ get_or (awards (offer_of t.terms) (bids_after_cuts t)) k 0
unfolding preview allotment in640
shown t h k =
    let given = awards_given t.terms (bids_in_book t.book) in
    ap (λ (l : Option ℕ). get_or (unless_refused l not_allotted (allotment t.terms (bids_in_book t.book))).awards k 0) h
    ∙ zeros_behind given (640 - length given) k
    ∙ ap (λ (l : List ℕ). get_or l k 0) (given_of_offer t.terms (bids_in_book t.book))

pub steady_previews_by_d : SteadyPreviewsByD
steady_previews_by_d first second place d lists given₁ given₂ k other =
    let o = offer_of first.terms in
    let same = ap₂ (λ (o : Offer) (bs : List Bid). get_or (awards o bs) k 0) lists.same_offer lists.higher in
    let within = steady_by_d o (bids_after_cuts first) place d lists.above_zero k other in
    omega (arith, within, shown first given₁ k, shown second given₂ k ∙ same)

pub steady_previews : SteadyPreviews
steady_previews first second place d lists given₁ given₂ k other =
    let within = steady_previews_by_d first second place d lists given₁ given₂ k other in
    omega (arith, within)
