-- What allotting and a preview give: refused, no awards and the tender that came in; else the awards, and the tender announced or as it was. Assumes nothing.
use Rattle.std.specs.Prelude.{Result}
use mathlib.Core.Path.{◌≡◌, refl, sym, ap, subst, ◌∙◌}
use mathlib.Core.Option.{Option, none, some}
use Prim.Native.Nat.{ℕ}
use Rattle.envelope.specs.Refusals.{unless_refused}
use Rattle.rules.specs.Calls as rules
use Rattle.refusals.specs.declared.State.TheVariants as state
use Rattle.refusals.specs.declared.Refusal.{Refusal}
use Rattle.refusals.specs.Conditions.{state_of, refusal_number, not_closed, ended}
use Rattle.outcomes.specs.Allotting.{AllotsPlaces}
use Rattle.outcomes.proofs.Awarding.{allot_is, preview_is}
use Rattle.book_allotment.specs.declared.internal.BookAllotment.{BookAllotment}
use Rattle.book_allotment.specs.Allotted.{allotted_in, AllotsBook}
use Rattle.tender.specs.declared.Tender.{Tender}
use Rattle.tender.specs.Viewed.{viewed, Given, in_state_of}
use Rattle.tender.specs.Calls.{Allots, Previews}
use Rattle.tender.proofs.Changing.{given-in}

module _ (t : Tender) (g : Given t) (first : Result (Unit {0}) Refusal) (a : Result BookAllotment Refusal) (allotted : AllotsBook first t.terms t.book a) where
  -- the conditions that the call asks first are those of the tender's state
  places : (l : Option ℕ) → refusal_number first ≡ l → AllotsPlaces l (viewed t) (refusal_number a) (allotted_in a)
  places l e = subst (λ (x : Option ℕ). AllotsPlaces x (viewed t) (refusal_number a) (allotted_in a)) e (allotted t.state)

  pub allots : refusal_number first ≡ not_closed (state_of t.state) → (next : Tender) → next ≡ unless_refused (refusal_number a) t (in_state_of state.Announced t)
      → Allots t (record { answer = a; tender = next })
  allots e next n = go (refusal_number a) refl
    where
      equal : (viewed next ≡ unless_refused (refusal_number a) (viewed t) (rules.in_state rules.Announced (viewed t))) → (refusal_number a, viewed next, allotted_in a) ≡ rules.allot (viewed t)
      equal = allot_is (viewed t) (refusal_number a) (allotted_in a) (places (not_closed (state_of t.state)) e) (viewed next)

      go : (l : Option ℕ) → refusal_number a ≡ l → Allots t (record { answer = a; tender = next })
      go none q =
          let same : next ≡ in_state_of state.Announced t = rw q at n in
          record {
            equal = equal (ap viewed same ∙ sym (ap (λ (l : Option ℕ). unless_refused l (viewed t) (rules.in_state rules.Announced (viewed t))) q));
            unchanged = sym (ap (λ (l : Option ℕ). unless_refused l t next) q);
            given = given-in t g state.Announced next same;
          }
      go (some k) q =
          let same : next ≡ t = rw q at n in
          record {
            equal = equal (ap viewed same ∙ sym (ap (λ (l : Option ℕ). unless_refused l (viewed t) (rules.in_state rules.Announced (viewed t))) q));
            unchanged = same ∙ sym (ap (λ (l : Option ℕ). unless_refused l t next) q);
            given = subst Given (sym same) g;
          }

  pub previews : refusal_number first ≡ ended (state_of t.state) → Previews t (record { answer = a; tender = t })
  previews e = record { equal = preview_is (viewed t) (refusal_number a) (allotted_in a) (places (ended (state_of t.state)) e); unchanged = refl; given = g }
