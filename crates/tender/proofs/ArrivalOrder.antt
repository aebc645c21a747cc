-- Demand 3 of what the calls return: the theorem of the rules, carried over the contracts. Assumes nothing.
use mathlib.Core.Path.{◌≡◌, refl, sym, ap, ◌∙◌}
use mathlib.Core.List.{List}
use mathlib.Core.Option.{Option, none}
use Prim.Native.Nat.{ℕ}
use Rattle.rules.specs.Allotment.{sum}
use Rattle.rules.specs.Opening.{Admission, opening_refused}
use Rattle.rules.specs.Receiving.{Reception}
use Rattle.rules.specs.Calls as rules
use Rattle.rules.specs.ArrivalOrder.{receive_all, after_receptions, after_closing}
use Rattle.rules.proofs.ArrivalOrder.{arrival_order}
use Rattle.terms.specs.Viewed.{open_refusal}
use Rattle.refusals.specs.Conditions.{refusal_number}
use Rattle.tender.specs.declared.Tender.{Tender}
use Rattle.tender.specs.declared.Opened.{Opened}
use Rattle.tender.specs.declared.Changed.{Changed}
use Rattle.tender.specs.declared.Allotted.{Allotted}
use Rattle.tender.specs.Viewed.{viewed, allotted_in}
use Rattle.tender.specs.Calls.{Opens}
use Rattle.tender.specs.ArrivalOrder.{ReceivesAll, no_more, and_next, Run, ArrivalOrderOfCalls}

received-all : {t last : Tender} {rs : List Reception} → ReceivesAll t rs last → viewed last ≡ receive_all (viewed t) rs
unfolding receive_all
received-all no_more = refl
received-all (and_next {xs = xs} r after e more) = received-all more ∙ ap (λ (p : rules.Answer × rules.Tender × List ℕ). receive_all p.1 xs) e.answers.equal

pub received-last : (m : List ℕ) (a : Admission) (rs : List Reception) (opened : Opened) (last : Tender) → Opens m a opened → ReceivesAll opened.tender rs last → viewed last ≡ after_receptions m a rs
received-last m a rs opened last o r = received-all r ∙ ap (λ (p : Option ℕ × rules.Tender). receive_all p.1 rs) o.equal

pub opening-accepted : (m : List ℕ) (a : Admission) (opened : Opened) → Opens m a opened → open_refusal opened.answer ≡ none → opening_refused m a ≡ none
unfolding rules.open_tender
opening-accepted m a opened o h = sym (ap (λ (p : Option ℕ × rules.Tender). p.0) o.equal) ∙ h

module _ (m : List ℕ) (a : Admission) (rs : List Reception) (date time : ℕ) (opened : Opened) (closed : Changed) (allotted : Allotted)
    (run : Run m a rs date time opened closed allotted) where
  last_is : viewed run.last ≡ after_receptions m a rs
  last_is = received-last m a rs opened run.last run.opens run.receives

  closing_is : (refusal_number closed.answer, viewed closed.tender) ≡ rules.close (after_receptions m a rs) date time
  closing_is = run.closes.equal ∙ ap (λ (t : rules.Tender). rules.close t date time) last_is

  allotting_is : (refusal_number allotted.answer, viewed allotted.tender, allotted_in allotted) ≡ rules.allot (after_closing m a rs date time)
  allotting_is = run.allots.equal ∙ ap (λ (p : Option ℕ × rules.Tender). rules.allot p.1) closing_is

  -- what the run gives, as the rules have it
  closing-number : refusal_number closed.answer ≡ (rules.close (after_receptions m a rs) date time).0
  closing-number = ap (λ (p : Option ℕ × rules.Tender). p.0) closing_is

  allotting-number : refusal_number allotted.answer ≡ (rules.allot (after_closing m a rs date time)).0
  allotting-number = ap (λ (p : Option ℕ × rules.Tender × rules.Allotted). p.0) allotting_is

  awards_are : allotted_in allotted ≡ (rules.allot (after_closing m a rs date time)).2
  awards_are = ap (λ (p : Option ℕ × rules.Tender × rules.Allotted). p.2) allotting_is

pub arrival_order_of_calls : ArrivalOrderOfCalls
arrival_order_of_calls m a rs rearranged date time date₂ time₂ opened opened₂ closed closed₂ allotted allotted₂ run run₂ h space agree order past past₂ =
    let first = closing-number m a rs date time opened closed allotted run in
    let theorem = arrival_order m a (opening-accepted m a opened run.opens h) rs rearranged space agree order date time date₂ time₂ past past₂ in
    let awards = awards_are m a rs date time opened closed allotted run in
    let awards₂ = awards_are m a rearranged date₂ time₂ opened₂ closed₂ allotted₂ run₂ in (
      first ∙ theorem.0.closes,
      allotting-number m a rs date time opened closed allotted run ∙ theorem.0.allots,
      closing-number m a rearranged date₂ time₂ opened₂ closed₂ allotted₂ run₂ ∙ theorem.1.closes,
      allotting-number m a rearranged date₂ time₂ opened₂ closed₂ allotted₂ run₂ ∙ theorem.1.allots,
      awards ∙ theorem.0.awarded,
      awards₂ ∙ theorem.2 ∙ sym awards,
      ap (λ (x : rules.Allotted). sum x.awards) awards ∙ theorem.3,
    )
