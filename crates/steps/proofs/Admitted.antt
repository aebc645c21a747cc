-- The step of an A0, in groups of five digits or not. Assumes nothing.
use mathlib.Core.Path.{◌≡◌, sym, ap, ◌∙◌}
use mathlib.Core.Bool.{Bool, true, false, cond, ◌&&◌}
use mathlib.Core.List.{List, []}
use mathlib.Core.Option.{Option, none, some}
use Prim.Native.Nat.{ℕ, ◌/◌, ◌%◌, ◌≤◌, min}
use lib.Dec.{eqb}
use lib.ListN.{length, take}
use Rattle.output.proofs.Output.{nothing}
use Rattle.digits.specs.Decimal.{all_digits}
use Rattle.log_rules.specs.Steps.{Log, Step, admission_step, ending}
use Rattle.session_fields.specs.Codes.{codes_from}
use Rattle.session_fields.proofs.Codes.{codes-kept, admitted_are}
use Rattle.steps.specs.declared.Standing.{Standing}
use Rattle.steps.specs.declared.Taken.{Taken}
use Rattle.steps.specs.Viewed.{viewed, Given, Takes, ended_at}
use Rattle.steps.proofs.Taking.{takes_as, takes-ended}

-- the step of an A0 in groups of five digits, and of another
abbrev step_on : Log → Option (List ℕ) → Step
step_on l admittedCodes = elim admittedCodes [ none ↦ ending l | some codes ↦ (record { ended = false; codes = codes; tender = l.tender }, []) ]

admission_is : (l : Log) (s : List ℕ) (t : Bool) → eqb (length s % 5) 0 && all_digits s ≡ t → step_on l (cond t (some (codes_from (length s / 5) s)) none) ≡ admission_step l s
unfolding admission_step
admission_is l s t h = sym (ap (step_on l) (admitted_are s ∙ ap (λ (b : Bool). cond b (some (codes_from (length s / 5) s)) none) h))

module _ (st : Standing) (codes words s space : List ℕ) (g : Given st words) where
  pub admitted : (n : ℕ) (after : List ℕ) → eqb (length s % 5) 0 && all_digits s ≡ true → n ≡ min (length s / 5) 65 → n ≤ 65 → take n after ≡ codes_from n s
      → Takes (admission_step (viewed st codes words) s) space (record { standing = record { ended = false; opened = st.opened; n = n }; length = 0 }) after words space
  admitted n after h m few e =
      let k : take 65 (codes_from (length s / 5) s) ≡ take n after = codes-kept (length s / 5) 65 s ∙ ap (λ (i : ℕ). codes_from i s) (sym m) ∙ sym e in
      takes_as (admission_is (viewed st codes words) s true h)
      (record {
        state = λ i. record { ended = false; codes = (k i); tender = (viewed st codes words).tender };
        lines = nothing space 0;
        given = record { few = few; tender = g.tender };
      })

  pub not_admitted : (r : Taken) → r ≡ ended_at st → eqb (length s % 5) 0 && all_digits s ≡ false → Takes (admission_step (viewed st codes words) s) space r codes words space
  not_admitted r e h = takes_as (admission_is (viewed st codes words) s false h) (takes-ended st codes words space r e g)
