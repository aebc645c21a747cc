-- What the reader says of a message. Assumes nothing.
use Rattle.std.specs.Prelude.{Result}
use mathlib.Core.Path.{◌≡◌, refl, sym, ap, ◌∙◌}
use mathlib.Core.Bool.{Bool, true, false, cond, not, false≢true}
use mathlib.Core.List.{List, [], ◌∷◌}
use mathlib.Core.Option.{Option, none, some}
use Prim.Native.Nat.{ℕ}
use Rattle.layout.specs.Fields.{readable}
use Rattle.envelope.specs.Refusals.{first_holding, unless_refused}
use Rattle.envelope.specs.declared.application.Unreadable.{Unreadable}
use Rattle.envelope.specs.declared.application.Fields.{Fields}
use Rattle.envelope.specs.Application.{layout6_g1, unreadable, reading, read_refusal, fields_in, no_fields, fields_of}
use Rattle.refusals.specs.Conditions.{is_some}

module _ (m : List ℕ) (r : Result Fields Unreadable) (e : ◌≡◌ {A = Option ℕ × Fields} (read_refusal r, fields_in r) (reading m)) where
  pub number_read : first_holding ((12, unreadable m) ∷ []) ≡ read_refusal r
  unfolding reading
  number_read = sym (ap (λ (p : Option ℕ × Fields). p.0) e)

  pub readable-read : read_refusal r ≡ none → readable layout6_g1 m ≡ true
  unfolding first_holding
  readable-read h = go (readable layout6_g1 m) refl (number_read ∙ h)
    where
      go : (b : Bool) → readable layout6_g1 m ≡ b → cond {A = Option ℕ} (not b) (some 12) none ≡ none → b ≡ true
      go true q p = refl
      go false q p = absurd (false≢true (sym (ap is_some p)))

  pub fields_read : read_refusal r ≡ none → fields_in r ≡ fields_of m
  unfolding reading
  fields_read h = ap (λ (p : Option ℕ × Fields). p.1) e ∙ ap (λ (l : Option ℕ). unless_refused l no_fields (fields_of m)) (number_read ∙ h)
