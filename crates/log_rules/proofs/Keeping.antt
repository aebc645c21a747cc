-- Each field leaves a tender of which holds what holds of every tender that calls give. Assumes nothing.
use mathlib.Core.Bool.{Bool, true, false, cond}
use mathlib.Core.List.{List, []}
use mathlib.Core.Option.{Option, none, some}
use Prim.Native.Nat.{ℕ}
use lib.Dec.{eqb, ltb}
use lib.ListN.{length}
use Rattle.rules.specs.Opening.{uncapped}
use Rattle.rules.specs.Calls.{Tender, open_tender}
use Rattle.rules.specs.Events.{Kept}
use Rattle.rules.proofs.Events.{kept-opened, kept-received, kept-closed, kept-allotted, kept-revoked}
use Rattle.log_rules.specs.Steps.{Log, Step, ending, on_tender, admitted_in, admission_step, opened_step, announcement_step, date_of, time_of, reception_in, received, reception_step, closed, closing_step, revoked, revocation_step, allotted, allotting_step, step}
use Rattle.log_rules.specs.Theorems.{KeptTender, StepsKeep}

-- a step that leaves such a tender
abbrev Leaves : Step → Type 0
Leaves x = KeptTender x.0.tender

either : (b : Bool) (x y : Step) → Leaves x → Leaves y → Leaves (cond b x y)
either true x y p q = p
either false x y p q = q

module _ (l : Log) (k : KeptTender l.tender) where
  called : (call : Tender → Tender × List ℕ) → ((t : Tender) → Kept t → Kept (call t).0) → (there : Option Tender) → KeptTender there
      → Leaves (elim there [ none ↦ (l, []) | some t ↦ (record { ended = false; codes = l.codes; tender = some (call t).0 }, (call t).1) ])
  called call h none there = k
  called call h (some t) there = h t there

  admits : (codes_in : Option (List ℕ)) → Leaves (elim codes_in [ none ↦ ending l | some codes ↦ (record { ended = false; codes = codes; tender = l.tender }, []) ])
  admits none = k
  admits (some codes) = k

  opens : (x : Option ℕ × Tender) → Kept x.1 → Leaves (opened_step l x)
  opens (none, t) h = h
  opens (some n, t) h = k

  module _ (s : List ℕ) where
    leaves_A0 : Leaves (admission_step l s)
    unfolding admission_step
    leaves_A0 = admits (admitted_in s)

    leaves_A1 : Leaves (announcement_step l s)
    unfolding announcement_step
    leaves_A1 = opens (open_tender s (uncapped l.codes)) (kept-opened s (uncapped l.codes))

    leaves_A2 : Leaves (reception_step l s)
    unfolding reception_step
    leaves_A2 = either (ltb (length s) 14) (ending l) (on_tender l (received s)) k (called (received s) (λ t h. kept-received t h (reception_in s)) l.tender k)

    leaves_A3 : Leaves (closing_step l s)
    unfolding closing_step
    leaves_A3 = either (eqb (length s) 14) (on_tender l (closed s)) (ending l) (called (closed s) (λ t h. kept-closed t h (date_of s) (time_of s)) l.tender k) k

    leaves_A4 : Leaves (revocation_step l s)
    unfolding revocation_step
    leaves_A4 = either (eqb (length s) 0) (on_tender l revoked) (ending l) (called revoked (λ t h. kept-revoked t h) l.tender k) k

    leaves_A5 : Leaves (allotting_step l s)
    unfolding allotting_step
    leaves_A5 = either (eqb (length s) 0) (on_tender l allotted) (ending l) (called allotted (λ t h. kept-allotted t h) l.tender k) k

pub steps_keep : StepsKeep
unfolding step
steps_keep l tag s k =
    either l.ended _ _ k
    (either (eqb tag 0xA0) _ _ (leaves_A0 l k s)
    (either (eqb tag 0xA1) _ _ (leaves_A1 l k s)
    (either (eqb tag 0xA2) _ _ (leaves_A2 l k s)
    (either (eqb tag 0xA3) _ _ (leaves_A3 l k s)
    (either (eqb tag 0xA4) _ _ (leaves_A4 l k s)
    (either (eqb tag 0xA5) _ _ (leaves_A5 l k s)
    k))))))
