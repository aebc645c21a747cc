-- What allotting and a preview come to on a tender that comes in its parts. Assumes nothing.
use Rattle.std.specs.Prelude.{◌≡◌, List, [], ◌∷◌, ℕ, Result, Ok, Err}
use Rattle.std.specs.Prelude as prelude
use Rattle.std.proofs.Math.Option.{Option, none, some}
use Rattle.envelope.specs.Refusals.{first_holding, unless_refused}
use Rattle.places.specs.declared.Rate.{Rate}
use Rattle.rules.specs.Calls as rules
use Rattle.bids.specs.Columns.{bids_of}
use Rattle.book.specs.declared.Book.{Book}
use Rattle.book.specs.Viewed.{viewed, limits_in}
use Rattle.marginal.specs.Ranks.{rate_in}
use Rattle.terms.specs.declared.Terms.{Terms}
use Rattle.refusals.specs.declared.State.{State}
use Rattle.refusals.specs.declared.Refusal.{Refusal}
use Rattle.refusals.specs.Conditions.{refusal_number}
use Rattle.outcomes.specs.Outcomes.{viewed_of}

-- the marginal rate and the awards of the bids in the book
abbrev pub awarded_to : rules.Tender → Option ℕ × List ℕ
awarded_to t = (rules.marginal_given t.terms (rules.bids_in_book t.book), rules.awards_given t.terms (rules.bids_in_book t.book))

-- why a call is refused that asks for condition 16 after others
abbrev pub or_exceeding : Option ℕ → rules.Tender → Option ℕ
or_exceeding none t = first_holding ((16, rules.bids_exceed t) ∷ [])
or_exceeding (some n) t = some n

-- the marginal rate of an answer, which a refused one has not
abbrev pub marginal_in : Result (prelude.Option Rate) Refusal → Option ℕ
marginal_in (Ok m) = rate_in m
marginal_in (Err r) = none

-- allotting, after a call's first conditions, with a space for the awards of the bids in the book; refused, there is no marginal rate and the space is
-- as it was
pub record AllotsBids (first : Option ℕ) (t : rules.Tender) (space : List ℕ) (r : Result (prelude.Option Rate) Refusal) (after : List ℕ) : Type 0 where
  pub number : refusal_number r ≡ or_exceeding first t
  pub awarded : ◌≡◌ {A = Option ℕ × List ℕ} (marginal_in r, after) (unless_refused (refusal_number r) (none, space) (awarded_to t))

-- the same for any tender whose book holds these bids and has these limits
abbrev pub AllotsAny : Result (Unit {0}) Refusal → Terms → List ℕ → List ℕ → List ℕ → List ℕ → Result (prelude.Option Rate) Refusal → List ℕ → Type 0
AllotsAny first terms limits rates amounts space r after =
    (s : State) (b : Book)
    → bids_of rates amounts ≡ rules.bids_in_book (viewed b)
    → limits ≡ limits_in b
    → AllotsBids (refusal_number first) (viewed_of s terms b) space r after

-- the same with the awards of 640 places, and the number of the refusal: what allotting and a preview give
pub record AllotsPlaces (first : Option ℕ) (t : rules.Tender) (refusal : Option ℕ) (given : rules.Allotted) : Type 0 where
  pub number : refusal ≡ or_exceeding first t
  pub awarded : given ≡ unless_refused refusal rules.not_allotted (rules.allotment t.terms (rules.bids_in_book t.book))
