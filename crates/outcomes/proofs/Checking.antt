-- Conditions 8 to 12 of a reception: one of the first four holds, or the message decides. Assumes nothing.
use Rattle.std.specs.Prelude.{Result, Ok, Err}
use mathlib.Core.Path.{◌≡◌, refl, sym, ap, ◌∙◌}
use mathlib.Core.Bool.{Bool, true, false, ◌&&◌, false≢true}
use mathlib.Core.List.{List, [], ◌∷◌}
use mathlib.Core.Option.{Option, none, some}
use Prim.Native.Nat.{ℕ}
use lib.Dec.{ltb}
use lib.ListN.{length}
use borrow.Author.Tests.{ltb-false, not-false}
use Rattle.calendar.specs.Calendar.{valid_date, valid_time}
use Rattle.envelope.specs.Refusals.{first_holding}
use Rattle.envelope.specs.declared.application.Unreadable.{Unreadable}
use Rattle.envelope.specs.declared.application.Fields.{Fields}
use Rattle.envelope.specs.Application.{unreadable, reading, read_refusal, fields_in}
use Rattle.rules.specs.Opening.{Terms}
use Rattle.rules.specs.Receiving.{Entry}
use Rattle.rules.specs.Calls.{is_revoked, is_over, clock_invalid, reply_space, space_short, receiving_refused}
use Rattle.rules.proofs.Opening.{next_condition}
use Rattle.checks.specs.Columns.{reception_of}
use Rattle.refusals.specs.declared.State.{State}
use Rattle.refusals.specs.declared.Refusal.{Refusal}
use Rattle.refusals.specs.declared.Refusal.TheVariants as refusal
use Rattle.refusals.specs.Conditions.{state_of, number_of, is_some, tender_in}
use Rattle.refusals.proofs.Conditions.{refused-first, refused-later}
use Rattle.outcomes.specs.Outcomes.{not_receiving, Checks}
use Rattle.outcomes.proofs.Reading.{number_read, readable-read, fields_read}

module _ (state : State) (m : List ℕ) (date time room : ℕ) where
  abbrev first_four : List (ℕ × Bool)
  first_four = (8, is_revoked (state_of state)) ∷ (9, is_over (state_of state)) ∷ (10, clock_invalid date time) ∷ (11, ltb room reply_space) ∷ []

  abbrev all_five : List (ℕ × Bool)
  all_five = (8, is_revoked (state_of state)) ∷ (9, is_over (state_of state)) ∷ (10, clock_invalid date time) ∷ (11, ltb room reply_space) ∷ (12, unreadable m) ∷ []

  -- the length of the space is all that is asked of it
  asked : (t : Terms) (book : List Entry) (space : List ℕ) → length space ≡ room → receiving_refused (tender_in t state book) (reception_of m date time space) ≡ first_holding all_five
  unfolding receiving_refused space_short
  asked t book space e =
      ap (λ (n : ℕ). first_holding ((8, is_revoked (state_of state)) ∷ (9, is_over (state_of state)) ∷ (10, clock_invalid date time) ∷ (11, ltb n reply_space) ∷ (12, unreadable m) ∷ [])) e

  -- refused
  not_checked : (f : Refusal) → ((t : Terms) (book : List Entry) (space : List ℕ) → length space ≡ room → some (number_of f) ≡ receiving_refused (tender_in t state book) (reception_of m date time space))
      → Checks state m date time room (Err f)
  not_checked f number =
      let not_none : some (number_of f) ≡ none → ⊥ = λ q. false≢true (sym (ap is_some q)) in
      record {
        number = number;
        roomy = λ q. absurd (not_none q);
        readable-told = λ q. absurd (not_none q);
        fields_are = tt;
        clock_valid = λ q. absurd (not_none q);
      }

  pub checks_first : (f : Refusal) → some (number_of f) ≡ not_receiving (state_of state) date time room → Checks state m date time room (Err f)
  checks_first f e = not_checked f (λ t book space l. sym (asked t book space l ∙ refused-first first_four ((12, unreadable m) ∷ []) (some (number_of f)) e refl))

  module _ (e : none ≡ not_receiving (state_of state) date time room) (r : Result Fields Unreadable) (is_read : ◌≡◌ {A = Option ℕ × Fields} (read_refusal r, fields_in r) (reading m)) where
    ten : (clock_invalid date time ≡ false) × (first_holding ((11, ltb room reply_space) ∷ []) ≡ none)
    ten =
        let eight = next_condition 8 (is_revoked (state_of state)) _ (sym e) in
        let nine = next_condition 9 (is_over (state_of state)) _ eight.1 in
        next_condition 10 (clock_invalid date time) _ nine.1

    valid : valid_date date && valid_time time ≡ true
    unfolding clock_invalid
    valid = not-false (valid_date date && valid_time time) ten.0

    message_asked : (t : Terms) (book : List Entry) (space : List ℕ) → length space ≡ room → receiving_refused (tender_in t state book) (reception_of m date time space) ≡ read_refusal r
    message_asked t book space l = asked t book space l ∙ refused-later first_four ((12, unreadable m) ∷ []) none e refl ∙ number_read m r is_read

    pub checks_unreadable : (f : Refusal) (u : Unreadable) → f ≡ refusal.Unreadable → r ≡ Err u → Checks state m date time room (Err f)
    checks_unreadable f u told refused = not_checked f (λ t book space l. ap (λ (x : Refusal). some (number_of x)) told ∙ sym (message_asked t book space l ∙ ap read_refusal refused))

    pub checks_read : (fields : Fields) → r ≡ Ok fields → Checks state m date time room (Ok fields)
    checks_read fields told =
        let no : read_refusal r ≡ none = ap read_refusal told in
        record {
          number = λ t book space l. sym (message_asked t book space l ∙ no);
          roomy = λ q. ltb-false room reply_space (next_condition 11 (ltb room reply_space) [] ten.1).0;
          readable-told = λ q. readable-read m r is_read no;
          fields_are = sym (ap fields_in told) ∙ fields_read m r is_read no;
          clock_valid = λ q. valid;
        }
