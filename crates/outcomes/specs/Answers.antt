-- What a reception tells, for a tender by value and one in place. Assumes nothing.
use Rattle.std.specs.Prelude.{◌≡◌, List, [], ℕ, ◌≤◌, Result, Ok, Err, IfOk}
use Rattle.std.proofs.Math.Option.{Option, none, some}
use Rattle.rules.specs.Receiving.{Error}
use Rattle.rules.specs.Calls as rules
use Rattle.errors.specs.Listed.{listed}
use Rattle.refusals.specs.declared.Refusal.{Refusal}
use Rattle.refusals.specs.Conditions.{number_of}
use Rattle.outcomes.specs.declared.internal.Reply.{Reply}

-- a reception refused, or answered with the errors and the length of the reply
abbrev pub answer_in : Option ℕ → List Error → ℕ → rules.Answer
answer_in none es n = rules.answer_to es n
answer_in (some k) es n = rules.refused k

-- the errors and the length that stand beside an answer: none where the message is not returned, zero where the reception is refused
abbrev pub errors_in : rules.Answer → List Error
errors_in (rules.confirmed n) = []
errors_in (rules.returned es n) = es
errors_in (rules.refused k) = []

abbrev pub reply_length : rules.Answer → ℕ
reply_length (rules.confirmed n) = n
reply_length (rules.returned es n) = n
reply_length (rules.refused k) = 0

-- 'An accepted message ..; one with errors gets RE01 and changes nothing in the tender'
abbrev pub unless_confirmed : {A : Type 0} → rules.Answer → A → A → A
unless_confirmed (rules.confirmed n) old new = new
unless_confirmed (rules.returned es n) old new = old
unless_confirmed (rules.refused k) old new = old

-- the answer that a refusal, or a reply with its errors and length, stands for
abbrev pub answer_of : Result Reply Refusal → rules.Answer
answer_of (Ok r) = answer_in none (listed r.errors) r.length
answer_of (Err r) = answer_in (some (number_of r)) [] 0

-- what a reception tells, the next tender and the reply space `after` it are what the rules expect; at most sixteen errors
pub record Answers (expected : rules.Answer × rules.Tender × List ℕ) (r : Result Reply Refusal) (next : rules.Tender) (after : List ℕ) : Type 0 where
  pub equal : (answer_of r, next, after) ≡ expected
  pub errors_are : IfOk r (λ x. listed x.errors ≡ errors_in (answer_of r))
  pub length_is : IfOk r (λ x. x.length ≡ reply_length (answer_of r))
  pub few : IfOk r (λ x. x.errors.n ≤ 16)
