-- A field that is taken ends the log where ends_log says so, and gives no line then. Assumes nothing.
use mathlib.Core.Path.{◌≡◌, refl, sym, ap, ◌∙◌}
use mathlib.Core.Bool.{Bool, true, false, cond, not, ◌&&◌, true≢false}
use mathlib.Core.List.{List, []}
use mathlib.Core.Option.{Option, none, some}
use Prim.Native.Nat.{ℕ, ◌/◌, ◌%◌}
use lib.Dec.{eqb, ltb}
use lib.ListN.{length}
use Rattle.digits.specs.Decimal.{all_digits}
use Rattle.rules.specs.Opening.{uncapped}
use Rattle.rules.specs.Calls.{Tender, open_tender}
use Rattle.log_rules.specs.Steps.{Log, Step, ending, on_tender, admitted_in, admission_step, opened_step, announcement_step, received, reception_step, closed, closing_step, revoked, revocation_step, allotted, allotting_step, step}
use Rattle.session_fields.specs.Codes.{codes_from}
use Rattle.session_fields.proofs.Codes.{admitted_are}
use Rattle.endings.specs.Endings.{is_none, ends_log, EndsLog}

-- a step that ends the log, or after which it has not ended
abbrev pub Ends : Log → Bool → Step → Type 0
Ends l true x = x ≡ ending l
Ends l false x = x.0.ended ≡ false

module _ (l : Log) where
  either : (b p q : Bool) (x y : Step) → Ends l p x → Ends l q y → Ends l (cond b p q) (cond b x y)
  either true p q x y f g = f
  either false p q x y f g = g

  unended : (b p : Bool) (x y : Step) → b ≡ false → Ends l p y → Ends l p (cond b x y)
  unended true p x y h f = absurd (true≢false h)
  unended false p x y h f = f

  ends_if : (b : Bool) (x : Step) → Ends l false x → Ends l b (cond b (ending l) x)
  ends_if true x f = refl
  ends_if false x f = f

  ends_unless : (b : Bool) (x : Step) → Ends l false x → Ends l (not b) (cond b x (ending l))
  ends_unless true x f = f
  ends_unless false x f = refl

  module _ (e : l.ended ≡ false) where
    called : (call : Tender → Tender × List ℕ) (there : Option Tender)
        → Ends l false (elim there [ none ↦ (l, []) | some t ↦ (record { ended = false; codes = l.codes; tender = some (call t).0 }, (call t).1) ])
    called call none = e
    called call (some t) = refl

    admits : (codes_in : Option (List ℕ)) → Ends l (is_none codes_in) (elim codes_in [ none ↦ ending l | some codes ↦ (record { ended = false; codes = codes; tender = l.tender }, []) ])
    admits none = refl
    admits (some codes) = refl

    opens : (x : Option ℕ × Tender) → Ends l false (opened_step l x)
    opens (none, t) = refl
    opens (some n, t) = e

    module _ (s : List ℕ) where
      ends_A0 : Ends l (is_none (admitted_in s)) (admission_step l s)
      unfolding admission_step
      ends_A0 = admits (admitted_in s)

      ends_A1 : Ends l false (announcement_step l s)
      unfolding announcement_step
      ends_A1 = opens (open_tender s (uncapped l.codes))

      ends_A2 : Ends l (ltb (length s) 14) (reception_step l s)
      unfolding reception_step
      ends_A2 = ends_if (ltb (length s) 14) (on_tender l (received s)) (called (received s) l.tender)

      ends_A3 : Ends l (not (eqb (length s) 14)) (closing_step l s)
      unfolding closing_step
      ends_A3 = ends_unless (eqb (length s) 14) (on_tender l (closed s)) (called (closed s) l.tender)

      ends_A4 : Ends l (not (eqb (length s) 0)) (revocation_step l s)
      unfolding revocation_step
      ends_A4 = ends_unless (eqb (length s) 0) (on_tender l revoked) (called revoked l.tender)

      ends_A5 : Ends l (not (eqb (length s) 0)) (allotting_step l s)
      unfolding allotting_step
      ends_A5 = ends_unless (eqb (length s) 0) (on_tender l allotted) (called allotted l.tender)

    pub ends_step : (tag : ℕ) (s : List ℕ) → Ends l (ends_log tag s) (step l tag s)
    unfolding step ends_log
    ends_step tag s =
        unended l.ended (ends_log tag s) (l, []) _ e
        (either (eqb tag 0xA0) _ _ (admission_step l s) _ (ends_A0 s)
        (either (eqb tag 0xA1) _ _ (announcement_step l s) _ (ends_A1 s)
        (either (eqb tag 0xA2) _ _ (reception_step l s) _ (ends_A2 s)
        (either (eqb tag 0xA3) _ _ (closing_step l s) _ (ends_A3 s)
        (either (eqb tag 0xA4) _ _ (revocation_step l s) _ (ends_A4 s)
        (either (eqb tag 0xA5) _ true (allotting_step l s) (ending l) (ends_A5 s)
        refl))))))

ended_is : (l : Log) (b : Bool) (x : Step) → Ends l b x → x.0.ended ≡ b
ended_is l true x h = ap (λ (y : Step). y.0.ended) h
ended_is l false x h = h

pub ends_log_lem : EndsLog
ends_log_lem l tag s e = ended_is l (ends_log tag s) (step l tag s) (ends_step l e tag s)

-- an A0 of other than groups of five digits admits no list
none_unless : (b : Bool) (codes : List ℕ) → not b ≡ is_none (cond b (some codes) none)
none_unless true codes = refl
none_unless false codes = refl

pub not_groups : (s : List ℕ) → not (eqb (length s % 5) 0 && all_digits s) ≡ is_none (admitted_in s)
not_groups s = none_unless (eqb (length s % 5) 0 && all_digits s) (codes_from (length s / 5) s) ∙ ap is_none (sym (admitted_are s))
