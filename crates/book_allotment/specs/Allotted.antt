-- What allotting the bids of a book gives, as document 01's. Assumes nothing.
use Rattle.std.specs.Prelude.{map, Result, Ok, Err}
use Rattle.rules.specs.Calls as rules
use Rattle.bids.specs.Columns.{cents}
use Rattle.terms.specs.declared.Terms.{Terms}
use Rattle.book.specs.declared.Book.{Book}
use Rattle.marginal.specs.Ranks.{rate_in}
use Rattle.refusals.specs.declared.State.{State}
use Rattle.refusals.specs.declared.Refusal.{Refusal}
use Rattle.refusals.specs.Conditions.{refusal_number}
use Rattle.outcomes.specs.Outcomes.{viewed_of}
use Rattle.outcomes.specs.Allotting.{AllotsPlaces}
use Rattle.book_allotment.specs.declared.internal.BookAllotment.{BookAllotment}

abbrev pub allotted_in : Result BookAllotment Refusal → rules.Allotted
allotted_in (Ok r) = record { awards = map cents r.awards; marginal = rate_in r.marginal }
allotted_in (Err r) = rules.not_allotted

-- for a tender of these terms and this book, whatever its state
abbrev pub AllotsBook : Result (Unit {0}) Refusal → Terms → Book → Result BookAllotment Refusal → Type 0
AllotsBook first terms book r = (s : State) → AllotsPlaces (refusal_number first) (viewed_of s terms book) (refusal_number r) (allotted_in r)
