-- Words that a refused call leaves, and words in another state. Assumes nothing.
use Rattle.std.specs.Prelude.{Ok, Err}
use mathlib.Core.Path.{◌≡◌, refl, ap, ◌∙◌}
use mathlib.Core.Bool.{true}
use mathlib.Core.List.{List}
use mathlib.Core.Option.{Option, none, some}
use Prim.Native.Nat.{ℕ, ◌<◌}
use lib.ListN.{set}
use Rattle.envelope.specs.Refusals.{unless_refused}
use Rattle.rules.specs.Calls as rules
use Rattle.refusals.specs.declared.Refusal.{Refusal}
use Rattle.refusals.specs.Conditions.{state_of, number_of}
use Rattle.buffer.specs.Words.{state_in, tender_in, is_tender}
use Rattle.buffer.proofs.Words.{known, in_state_tender, in_state_given}
use Rattle.in_place.specs.InPlace.{ChangesIn}

-- what closing, allotting and revoking make of a tender
abbrev pub changed : List ℕ → ℕ → Option ℕ → Option ℕ × rules.Tender
changed ws w l = (l, unless_refused l (tender_in ws) (rules.in_state (state_of (state_in w)) (tender_in ws)))

module _ (ws : List ℕ) (given : is_tender ws ≡ true) (w : ℕ) (l : Option ℕ) where
  pub changes_refused : (f : Refusal) → some (number_of f) ≡ l → ChangesIn ws (changed ws w l) w (Err f) ws
  changes_refused f e = record { equal = ap (changed ws w) e; numbers = refl; given = given }

  pub changes_state : none ≡ l → w < 4 → ChangesIn ws (changed ws w l) w (Ok tt) (set ws 1 w)
  changes_state e few =
      let k = known ws given in
      record { equal = (λ i. (none, in_state_tender ws k w i)) ∙ ap (changed ws w) e; numbers = refl; given = in_state_given ws k w few }
