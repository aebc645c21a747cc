-- What a preview by value foretells: the theorems of the rules, carried over the contracts. Assumes nothing.
use mathlib.Core.Path.{◌≡◌, sym, ap, ◌∙◌}
use mathlib.Core.Option.{Option, none}
use Prim.Native.Nat.{ℕ}
use Rattle.rules.specs.Calls as rules
use Rattle.rules.specs.Previews as rules-answer
use Rattle.rules.proofs.Previews.{preview_foretells, preview_of_receptions}
use Rattle.tender.specs.declared.Tender.{Tender}
use Rattle.tender.specs.declared.Allotted.{Allotted}
use Rattle.tender.specs.Viewed.{viewed}
use Rattle.tender.specs.Calls.{Previews}
use Rattle.tender.specs.Previews.{answered, PreviewForetellsCalls, PreviewOfReceptionCalls}
use Rattle.tender.proofs.ArrivalOrder.{received-last, opening-accepted}

previewed_is : (t : Tender) (r : Allotted) → Previews t r → answered r ≡ rules-answer.answered (rules.preview (viewed t))
previewed_is t r p = ap rules-answer.answered p.equal

pub preview_foretells_calls : PreviewForetellsCalls
unfolding rules.close
preview_foretells_calls t date time previewed closed allotted p c h a =
    let closes : rules.closing_refused (viewed t) date time ≡ none = sym (ap (λ (x : Option ℕ × rules.Tender). x.0) c.equal) ∙ h in
    previewed_is t previewed p
    ∙ preview_foretells (viewed t) date time closes
    ∙ ap (λ (x : Option ℕ × rules.Tender). rules-answer.answered (rules.allot x.1)) (sym c.equal)
    ∙ sym (ap rules-answer.answered a.equal)

pub preview_of_reception_calls : PreviewOfReceptionCalls
preview_of_reception_calls m a rs opened last previewed o h r room p =
    previewed_is last previewed p
    ∙ ap (λ (t : rules.Tender). rules-answer.answered (rules.preview t)) (received-last m a rs opened last o r)
    ∙ preview_of_receptions m a (opening-accepted m a opened o h) rs room
