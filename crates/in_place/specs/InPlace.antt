-- What each call on the words of a tender promises: one equation with the rules, and every word after it. Assumes nothing.
use Rattle.std.specs.Prelude.{◌≡◌, true, cond, List, ℕ, set, Option, Result, IfOk}
use Rattle.std.proofs.Math.Option as maybe
use Rattle.places.specs.declared.Rate.{Rate}
use Rattle.addresses.specs.Addresses.{code_in}
use Rattle.envelope.specs.Refusals.{unless_refused}
use Rattle.envelope.specs.Application.{fields_of}
use Rattle.rules.specs.Calls as rules
use Rattle.book.specs.Viewed.{viewed, find_from}
use Rattle.checks.specs.Columns.{reception_of}
use Rattle.refusals.specs.declared.Refusal.{Refusal}
use Rattle.refusals.specs.Conditions.{refusal_number}
use Rattle.outcomes.specs.declared.internal.Accepted.{Accepted}
use Rattle.outcomes.specs.declared.internal.Outcome.{Outcome}
use Rattle.outcomes.specs.declared.internal.Reply.{Reply}
use Rattle.outcomes.specs.Outcomes.{is_held, left_by, accepted_of, ComesTo}
use Rattle.outcomes.specs.Allotting.{marginal_in}
use Rattle.outcomes.specs.Answers.{answer_of, unless_confirmed, Answers}
use Rattle.buffer.specs.Words.{book_in, tender_in, is_tender, holding}

-- where the code of a message's sender stands in the book, and what is accepted of the message
abbrev pub sender_in : List ℕ → List ℕ → Option ℕ
sender_in ws m = find_from (viewed (book_in ws)) (code_in (fields_of m).sender) 0

abbrev pub accepted_in : List ℕ → List ℕ → Accepted
accepted_in ws m = accepted_of (sender_in ws m) (fields_of m)

-- the words in which that is held
abbrev pub holding_of : List ℕ → Accepted → List ℕ
holding_of ws a = holding ws a.at a.time a.rates a.amounts

-- what the reception of a message comes to, in any space with so much room
pub record ComesIn (ws m : List ℕ) (date time room : ℕ) (r : Result Outcome Refusal) : Type 0 where
  pub comes : ComesTo (tender_in ws) m date time room r
  pub accepts : IfOk r (λ o. o.accepted ≡ accepted_in ws m)

-- what it leaves
pub record LeavesIn (ws : List ℕ) (o : Outcome) (after : List ℕ) : Type 0 where
  pub tender_is : tender_in after ≡ left_by (tender_in ws) o
  pub numbers : after ≡ cond (is_held o) (holding_of ws o.accepted) ws
  pub given : is_tender after ≡ true

-- receiving: the words and the reply space are `after` and `space₂` when it is done; where the message is not confirmed every word stays
pub record ReceivesIn (ws m : List ℕ) (date time : ℕ) (space : List ℕ) (r : Result Reply Refusal) (after space₂ : List ℕ) : Type 0 where
  pub answers : Answers (rules.receive (tender_in ws) (reception_of m date time space)) r (tender_in after) space₂
  pub numbers : after ≡ unless_confirmed (answer_of r) ws (holding_of ws (accepted_in ws m))
  pub given : is_tender after ≡ true

-- closing and revoking: the word of the state changes, or none does
pub record ChangesIn (ws : List ℕ) (expected : maybe.Option ℕ × rules.Tender) (state : ℕ) (r : Result (Unit {0}) Refusal) (after : List ℕ) : Type 0 where
  pub equal : (refusal_number r, tender_in after) ≡ expected
  pub numbers : after ≡ unless_refused (refusal_number r) ws (set ws 1 state)
  pub given : is_tender after ≡ true

-- allotting: the same, with the awards of 640 places
pub record AllotsIn (ws : List ℕ) (r : Result (Option Rate) Refusal) (after awards : List ℕ) : Type 0 where
  pub equal : (refusal_number r, tender_in after, record { awards = awards; marginal = marginal_in r }) ≡ rules.allot (tender_in ws)
  pub numbers : after ≡ unless_refused (refusal_number r) ws (set ws 1 2)
  pub given : is_tender after ≡ true
