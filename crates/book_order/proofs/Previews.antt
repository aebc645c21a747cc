-- What a preview from C foretells: the theorems of the rules, carried over the contracts. Assumes nothing.
use mathlib.Core.Path.{◌≡◌, refl, sym, ap, ◌∙◌}
use mathlib.Core.Bool.{true}
use mathlib.Core.List.{List, [], ◌∷◌}
use mathlib.Core.Option.{Option, none}
use Prim.Native.Nat.{ℕ}
use Rattle.envelope.specs.Refusals.{or_zero}
use Rattle.rules.specs.Calls as rules
use Rattle.rules.specs.Calls.{is_revoked, is_over, clock_invalid, before_cut_off, closing_refused, close}
use Rattle.rules.specs.Previews.{answered}
use Rattle.rules.proofs.Previews.{preview_foretells, preview_of_receptions}
use Rattle.buffer.specs.Words.{tender_in, is_tender}
use Rattle.optes_book.specs.Interface.{awards_told, marginal_told, Changes, Previews}
use Rattle.optes_book.proofs.Calls.{told-all}
use Rattle.book_order.specs.Previews.{PreviewForetellsFromC, PreviewOfReceptionsFromC}
use Rattle.book_order.proofs.ArrivalOrder.{numbered, none_holds, zero_returned, accepted, received-tender}

-- what is told of an answer, in arrays that are lent
abbrev shown : List ℕ → List ℕ → Option ℕ × rules.Allotted → ℕ × List ℕ × List ℕ
shown awards told x = (or_zero x.0, awards_told x.0 x.1 awards, marginal_told x.0 x.1 told)

previewed_is : (ws awards told : List ℕ) (r : ℕ) (awards₂ told₂ : List ℕ) → is_tender ws ≡ true → Previews ws awards told r awards₂ told₂
    → ◌≡◌ {A = ℕ × List ℕ × List ℕ} (r, awards₂, told₂) (shown awards told (answered (rules.preview (tender_in ws))))
previewed_is ws awards told r awards₂ told₂ g p = p ∙ sym (told-all ws {A = ℕ × List ℕ × List ℕ} _ _ g)

-- closing that returns 0 found a tender and is not refused
module _ (ws : List ℕ) (date time : ℕ) (after : List ℕ) (closes : Changes ws (close (tender_in ws) date time) 1 0 after) where
  found : (is_tender ws ≡ true) × (or_zero (close (tender_in ws) date time).0 ≡ 0)
  found = zero_returned (λ (p : ℕ × List ℕ). p.0) (is_tender ws) _ _ refl (ap (λ (p : ℕ × List ℕ). p.0) closes.equal)

  closing-accepted : closing_refused (tender_in ws) date time ≡ none
  unfolding close closing_refused numbered
  closing-accepted =
      let t = tender_in ws in
      none_holds ((8, is_revoked t.state) ∷ (9, is_over t.state) ∷ (10, clock_invalid date time) ∷ (13, before_cut_off t.terms date time) ∷ []) refl found.1

pub preview_foretells_from_c : PreviewForetellsFromC
preview_foretells_from_c ws after announced awards told given shown₁ given₂ shown₂ date time previewed allotted p c a =
    let g = (found ws date time after c).0 in
    previewed_is ws awards told previewed given shown₁ g p
    ∙ ap (shown awards told) (preview_foretells (tender_in ws) date time (closing-accepted ws date time after c))
    ∙ ap (λ (t : rules.Tender). shown awards told (answered (rules.allot t))) (sym (c.tender g))
    ∙ sym (ap (λ (x : ℕ × List ℕ × List ℕ × List ℕ). (x.0, x.2, x.3)) (a.equal ∙ sym (told-all after {A = ℕ × List ℕ × List ℕ × List ℕ} _ _ (c.given g))))

pub preview_of_receptions_from_c : PreviewOfReceptionsFromC
preview_of_receptions_from_c m a rs ws first last awards told given shown₁ previewed o r room p =
    let x = received-tender m a rs ws first last o r in
    previewed_is last awards told previewed given shown₁ x.0 p
    ∙ ap (λ (t : rules.Tender). shown awards told (answered (rules.preview t))) x.1
    ∙ ap (shown awards told) (preview_of_receptions m a (accepted ws m a first o) rs room)
