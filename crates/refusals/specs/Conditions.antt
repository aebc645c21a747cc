-- The states and refusals of the code as document 01's, and the conditions that a state decides. Assumes nothing.
use Rattle.std.specs.Prelude.{◌≡◌, Bool, true, false, List, [], ◌∷◌, ℕ, Result, Ok, Err}
use Rattle.std.proofs.Math.Option.{Option, none, some}
use Rattle.envelope.specs.Refusals.{first_holding}
use Rattle.rules.specs.Opening.{Admission}
use Rattle.rules.specs.Opening as opening
use Rattle.rules.specs.Receiving.{Entry}
use Rattle.rules.specs.Calls as rules
use Rattle.terms.specs.declared.Terms.{Terms}
use Rattle.terms.specs.Viewed as terms
use Rattle.refusals.specs.declared.State.{State}
use Rattle.refusals.specs.declared.State.TheVariants as state
use Rattle.refusals.specs.declared.Refusal.{Refusal}
use Rattle.refusals.specs.declared.Refusal.TheVariants as refusal

-- 'open, closed, announced or revoked'
abbrev pub state_of : State → rules.State
state_of state.Open = rules.Open
state_of state.Closed = rules.Closed
state_of state.Announced = rules.Announced
state_of state.Revoked = rules.Revoked

-- document 01's number for each refusal
abbrev pub number_of : Refusal → ℕ
number_of refusal.Revoked = 8
number_of refusal.Over = 9
number_of refusal.ClockInvalid = 10
number_of refusal.SpaceShort = 11
number_of refusal.Unreadable = 12
number_of refusal.BeforeCutOff = 13
number_of refusal.Open = 14
number_of refusal.Announced = 15
number_of refusal.BidsExceed = 16

-- the number for the refusal in an answer, or none
abbrev pub refusal_number : {A : Type 0} → Result A Refusal → Option ℕ
refusal_number (Ok x) = none
refusal_number (Err r) = some (number_of r)

abbrev pub is_some : Option ℕ → Bool
is_some none = false
is_some (some n) = true

-- conditions 8, 9 and 10, which receiving and closing ask first
abbrev pub not_open : rules.State → ℕ → ℕ → Option ℕ
not_open s date time = first_holding ((8, rules.is_revoked s) ∷ (9, rules.is_over s) ∷ (10, rules.clock_invalid date time) ∷ [])

-- conditions 8, 14 and 15, which allotting asks first
abbrev pub not_closed : rules.State → Option ℕ
not_closed s = first_holding ((8, rules.is_revoked s) ∷ (14, rules.is_open s) ∷ (15, rules.is_announced s) ∷ [])

-- conditions 8 and 15, which revoking asks, and a preview first
abbrev pub ended : rules.State → Option ℕ
ended s = first_holding ((8, rules.is_revoked s) ∷ (15, rules.is_announced s) ∷ [])

-- a tender in a state of the code
abbrev pub tender_in : opening.Terms → State → List Entry → rules.Tender
tender_in t s book = record { terms = t; state = state_of s; book = book }

-- why closing is refused, whoever is admitted and whatever is held
abbrev pub RefusesClosing : State → Terms → ℕ → ℕ → Result (Unit {0}) Refusal → Type 0
RefusesClosing s t date time r =
    (a : Admission) (book : List Entry) → refusal_number r ≡ rules.closing_refused (tender_in (terms.viewed t a) s book) date time
