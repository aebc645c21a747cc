-- The codes that a journal keeps tell as much as all of them: logs of which it keeps the same go on alike. Assumes nothing.
use mathlib.Core.Path.{◌≡◌, refl, sym, ap, subst, ◌∙◌}
use mathlib.Core.Bool.{Bool, true, false, cond, not, ◌&&◌}
use mathlib.Core.List.{List, [], ◌++◌}
use mathlib.Core.Option.{Option, none, some}
use Prim.Native.Nat.{ℕ, zero, suc}
use native.Mathlib.Omega.{arith}
use lib.Dec.{eqb, ltb}
use lib.ListN.{length, take}
use lib.Seq.{take-take}
use Rattle.rules.specs.Opening.{uncapped}
use Rattle.rules.specs.Calls.{Tender, open_tender}
use Rattle.log_rules.specs.Steps.{Log, Step, ending, on_tender, admitted_in, admission_step, opened_step, announcement_step, received, reception_step, closed, closing_step, revoked, revocation_step, allotted, allotting_step, step, tag_of, content_of, after_field, holds_field, walked, log_from}
use Rattle.log_rules.proofs.Codes.{first_65_tell}
use Rattle.steps.specs.Viewed.{kept}

-- two steps alike: a journal keeps the same of both, and their lines are the same
abbrev Alike : Step → Step → Type 0
Alike a b = (kept a.0 ≡ kept b.0) × (a.1 ≡ b.1)

-- either step alike, whatever the test
either : (b : Bool) (x y x₂ y₂ : Step) → Alike x x₂ → Alike y y₂ → Alike (cond b x y) (cond b x₂ y₂)
either true x y x₂ y₂ p q = p
either false x y x₂ y₂ p q = q

-- keeping twice is keeping once
module _ (l : Log) where
  codes_twice : take 65 (take 65 l.codes) ≡ take 65 l.codes
  codes_twice = take-take 65 65 l.codes (omega arith)

  kept_twice : kept (kept l) ≡ kept l
  kept_twice = λ i. record { ended = l.ended; codes = (codes_twice i); tender = l.tender }

  ends : Alike (ending (kept l)) (ending l)
  ends = ((λ i. record { ended = true; codes = (codes_twice i); tender = l.tender }), refl)

-- the step of an A0 by the codes that it admits
abbrev admission_by : Log → Option (List ℕ) → Step
admission_by l codes_in = elim codes_in [ none ↦ ending l | some codes ↦ (record { ended = false; codes = codes; tender = l.tender }, []) ]

admits : (l : Log) (codes_in : Option (List ℕ)) → Alike (admission_by (kept l) codes_in) (admission_by l codes_in)
admits l none = ends l
admits l (some codes) = (refl, refl)

-- the step of an A1 by what opening gives
opens : (l : Log) (p : Option ℕ × Tender) → Alike (opened_step (kept l) p) (opened_step l p)
opens l (none, t) = ((λ i. record { ended = false; codes = (codes_twice l i); tender = some t }), refl)
opens l (some n, t) = (kept_twice l, refl)

-- a call by the tender that there is
abbrev calling : Log → (Tender → Tender × List ℕ) → Option Tender → Step
calling l call there = elim there [ none ↦ (l, []) | some t ↦ (record { ended = false; codes = l.codes; tender = some (call t).0 }, (call t).1) ]

calls : (l : Log) (call : Tender → Tender × List ℕ) (there : Option Tender) → Alike (calling (kept l) call there) (calling l call there)
calls l call none = (kept_twice l, refl)
calls l call (some t) = ((λ i. record { ended = false; codes = (codes_twice l i); tender = some (call t).0 }), refl)

-- the steps of the tags, A0 to A5, and of any field
module _ (l : Log) (s : List ℕ) where
  alike_A0 : Alike (admission_step (kept l) s) (admission_step l s)
  unfolding admission_step
  alike_A0 = admits l (admitted_in s)

  alike_A1 : Alike (announcement_step (kept l) s) (announcement_step l s)
  unfolding announcement_step
  alike_A1 = subst (λ (p : Option ℕ × Tender). Alike (opened_step (kept l) p) (opened_step l (open_tender s (uncapped l.codes)))) (sym (first_65_tell s l.codes)) (opens l (open_tender s (uncapped l.codes)))

  alike_A2 : Alike (reception_step (kept l) s) (reception_step l s)
  unfolding reception_step
  alike_A2 = either (ltb (length s) 14) (ending (kept l)) (on_tender (kept l) (received s)) (ending l) (on_tender l (received s)) (ends l) (calls l (received s) l.tender)

  alike_A3 : Alike (closing_step (kept l) s) (closing_step l s)
  unfolding closing_step
  alike_A3 = either (eqb (length s) 14) (on_tender (kept l) (closed s)) (ending (kept l)) (on_tender l (closed s)) (ending l) (calls l (closed s) l.tender) (ends l)

  alike_A4 : Alike (revocation_step (kept l) s) (revocation_step l s)
  unfolding revocation_step
  alike_A4 = either (eqb (length s) 0) (on_tender (kept l) revoked) (ending (kept l)) (on_tender l revoked) (ending l) (calls l revoked l.tender) (ends l)

  alike_A5 : Alike (allotting_step (kept l) s) (allotting_step l s)
  unfolding allotting_step
  alike_A5 = either (eqb (length s) 0) (on_tender (kept l) allotted) (ending (kept l)) (on_tender l allotted) (ending l) (calls l allotted l.tender) (ends l)

kept_step : (l : Log) (tag : ℕ) (s : List ℕ) → Alike (step (kept l) tag s) (step l tag s)
unfolding step
kept_step l tag s =
    either l.ended _ _ _ _ (kept_twice l, refl)
    (either (eqb tag 0xA0) _ _ _ _ (alike_A0 l s)
    (either (eqb tag 0xA1) _ _ _ _ (alike_A1 l s)
    (either (eqb tag 0xA2) _ _ _ _ (alike_A2 l s)
    (either (eqb tag 0xA3) _ _ _ _ (alike_A3 l s)
    (either (eqb tag 0xA4) _ _ _ _ (alike_A4 l s)
    (either (eqb tag 0xA5) _ _ _ _ (alike_A5 l s)
    (ends l)))))))

-- logs of which a journal keeps the same make steps alike
same_step : (l k : Log) (tag : ℕ) (s : List ℕ) → kept l ≡ kept k → Alike (step l tag s) (step k tag s)
same_step l k tag s e =
    let p = kept_step l tag s in
    let q = kept_step k tag s in (
      sym p.0 ∙ ap (λ (x : Log). kept (step x tag s).0) e ∙ q.0,
      sym p.1 ∙ ap (λ (x : Log). (step x tag s).1) e ∙ q.1,
    )

-- logs of which a journal keeps the same go on alike
walked-kept : (d : ℕ) (l k : Log) (s : List ℕ) → kept l ≡ kept k → walked d l s ≡ walked d k s
unfolding walked
walked-kept zero l k s e = refl
walked-kept (suc d) l k s e =
    let a = same_step l k (tag_of s) (content_of s) e in
    λ i. cond (holds_field s && not (e i).ended) (a.1 i ++ walked-kept d (step l (tag_of s) (content_of s)).0 (step k (tag_of s) (content_of s)).0 (after_field s) a.0 i) []

pub log-kept : (l : Log) (s : List ℕ) → log_from l s ≡ log_from (kept l) s
log-kept l s = walked-kept (length s) l (kept l) s (sym (kept_twice l))
