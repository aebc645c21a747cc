-- What closing and revoking give: refused, the tender that came in; else one in another state. Assumes nothing.
use Rattle.std.specs.Prelude.{Ok, Err}
use mathlib.Core.Path.{◌≡◌, refl, sym, ap, subst}
use mathlib.Core.Option.{none, some}
use Rattle.rules.specs.Events.{Kept}
use Rattle.rules.proofs.Events.{kept_unless}
use Rattle.refusals.specs.declared.State.{State}
use Rattle.refusals.specs.declared.Refusal.{Refusal}
use Rattle.refusals.specs.Conditions.{state_of, number_of}
use Rattle.tender.specs.declared.Tender.{Tender}
use Rattle.tender.specs.Viewed.{viewed, Given, in_state_of}
use Rattle.tender.specs.Calls.{Changes}
use Rattle.tender.specs.Parts.{changed_unless}

module _ (t : Tender) (g : Given t) (s : State) where
  pub changes_refused : (f : Refusal) → Changes t (changed_unless (some (number_of f)) (state_of s) (viewed t)) (record { answer = Err f; tender = t })
  changes_refused f = record { equal = refl; unchanged = refl; given = g }

  -- the other state keeps terms and book
  pub given-in : (next : Tender) → next ≡ in_state_of s t → Given next
  given-in next n = subst Kept (sym (ap viewed n)) (kept_unless (viewed t) g none (state_of s))

  pub changes_state : (next : Tender) → next ≡ in_state_of s t → Changes t (changed_unless none (state_of s) (viewed t)) (record { answer = Ok tt; tender = next })
  changes_state next n = record { equal = λ i. (none, ap viewed n i); unchanged = refl; given = given-in next n }
