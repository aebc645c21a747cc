-- What a reception comes to on a tender that comes in its parts. Assumes nothing.
use Rattle.std.specs.Prelude.{◌≡◌, Bool, true, cond, ◌&&◌, List, [], ◌∷◌, ℕ, ◌≤◌, ◌<◌, eqb, ltb, length, Option, Result, IfOk}
use Rattle.std.proofs.Math.Option as maybe
use Rattle.calendar.specs.Calendar.{valid_date, valid_time}
use Rattle.digits.specs.Decimal.{number_in}
use Rattle.addresses.specs.Addresses.{code_in}
use Rattle.layout.specs.Fields.{readable}
use Rattle.envelope.specs.Refusals.{first_holding}
use Rattle.envelope.specs.declared.application.Fields.{Fields}
use Rattle.envelope.specs.Application.{layout6_g1, fields_of}
use Rattle.rules.specs.Opening as opening
use Rattle.rules.specs.Receiving.{Reception, Error, Entry}
use Rattle.rules.specs.Calls as rules
use Rattle.bids.specs.Columns.{bids_from}
use Rattle.book.specs.declared.Book.{Book}
use Rattle.book.specs.Viewed as book
use Rattle.book.specs.Viewed.{index_of}
use Rattle.errors.specs.Listed.{listed}
use Rattle.terms.specs.declared.Terms.{Terms}
use Rattle.terms.specs.Viewed as terms
use Rattle.checks.specs.Columns.{reception_of}
use Rattle.reception.specs.Submission.{submitted, Stands}
use Rattle.refusals.specs.declared.State.{State}
use Rattle.refusals.specs.declared.Refusal.{Refusal}
use Rattle.refusals.specs.Conditions.{state_of, refusal_number, tender_in}
use Rattle.outcomes.specs.declared.internal.Accepted.{Accepted}
use Rattle.outcomes.specs.declared.internal.Outcome.{Outcome}

-- a tender of its parts, as document 01's
abbrev pub viewed_of : State → Terms → Book → rules.Tender
viewed_of s t b = record { terms = terms.viewed t (book.admission_of b); state = state_of s; book = book.viewed b }

-- a reception that is not refused is held, unless the message is returned
abbrev pub is_held : Outcome → Bool
is_held o = eqb o.errors.n 0

-- the book and the tender after a reception: at most the entry of its code changes
abbrev pub entries_after : List Entry → Outcome → List Entry
entries_after es o = cond (is_held o) (book.replaced es o.accepted.at o.accepted.time (bids_from o.accepted.rates o.accepted.amounts 0 10)) es

abbrev pub left_by : rules.Tender → Outcome → rules.Tender
left_by t o = record { terms = t.terms; state = t.state; book = entries_after t.book o }

-- the errors and the book that a reception leaves where no condition refuses it
abbrev pub Left : rules.Tender → Reception → Outcome → Type 0
Left t x o = ◌≡◌ {A = List Error × List Entry} (listed o.errors, entries_after t.book o) (submitted t.terms t.book x)

-- what is accepted of a message with the fields f whose code was found
abbrev pub accepted_of : Option ℕ → Fields → Accepted
accepted_of found f = record { at = index_of found; time = number_in f.time; rates = f.places.rates; amounts = f.places.amounts }

-- the same for any book in which the code of the message stands so: at most sixteen errors, and what is accepted
abbrev pub LeavesInAny : Terms → Option ℕ → Bool → List ℕ → Fields → ℕ → ℕ → Outcome → Type 0
LeavesInAny terms found taken m f date time o =
    (o.errors.n ≤ 16)
    × (o.accepted ≡ accepted_of found f)
    × ((b : Book)
    → Stands b (code_in f.sender) (number_in f.time) found taken
    → (s : State) (space : List ℕ)
    → Left (viewed_of s terms b) (reception_of m date time space) o)

-- conditions 8 to 11
abbrev pub not_receiving : rules.State → ℕ → ℕ → ℕ → maybe.Option ℕ
not_receiving s date time room =
    first_holding ((8, rules.is_revoked s) ∷ (9, rules.is_over s) ∷ (10, rules.clock_invalid date time) ∷ (11, ltb room rules.reply_space) ∷ [])

-- conditions 8 to 12 of a message, in any space with so much room, whatever the terms and the book; and what is known where none holds
pub record Checks (state : State) (m : List ℕ) (date time room : ℕ) (c : Result Fields Refusal) : Type 0 where
  pub number :
      (t : opening.Terms) (book : List Entry) (space : List ℕ)
      → length space ≡ room
      → refusal_number c ≡ rules.receiving_refused (tender_in t state book) (reception_of m date time space)
  pub roomy : refusal_number c ≡ maybe.none → rules.reply_space ≤ room
  pub readable-told : refusal_number c ≡ maybe.none → readable layout6_g1 m ≡ true
  pub fields_are : IfOk c (λ f. f ≡ fields_of m)
  pub clock_valid : refusal_number c ≡ maybe.none → valid_date date && valid_time time ≡ true

-- what the reception of a message comes to, in any space with so much room
pub record ComesTo (t : rules.Tender) (m : List ℕ) (date time room : ℕ) (r : Result Outcome Refusal) : Type 0 where
  pub number : (space : List ℕ) → length space ≡ room → refusal_number r ≡ rules.receiving_refused t (reception_of m date time space)
  pub roomy : refusal_number r ≡ maybe.none → rules.reply_space ≤ room
  pub readable-told : refusal_number r ≡ maybe.none → readable layout6_g1 m ≡ true
  pub left : IfOk r (λ o. (space : List ℕ) → Left t (reception_of m date time space) o)
  pub few : IfOk r (λ o. o.errors.n ≤ 16)
  pub within : IfOk r (λ o. o.accepted.at < 64)
