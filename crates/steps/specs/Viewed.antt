-- A standing with the codes and the words of a journal as the log of document 01, and what taking a field promises. Assumes nothing.
use Rattle.std.specs.Prelude.{◌≡◌, true, false, cond, List, ℕ, ◌≤◌, take, Result, Ok, Err}
use Rattle.std.proofs.Math.Option.{none, some}
use Rattle.output.specs.Output.{Wrote}
use Rattle.rules.specs.Calls.{Answer, Tender, answer_to, refused}
use Rattle.errors.specs.declared.Errors.{Errors}
use Rattle.errors.specs.Listed.{listed}
use Rattle.refusals.specs.declared.Refusal.{Refusal}
use Rattle.refusals.specs.Conditions.{number_of}
use Rattle.buffer.specs.Words.{tender_in, is_tender}
use Rattle.log_rules.specs.Steps.{Log, Step}
use Rattle.steps.specs.declared.Standing.{Standing}
use Rattle.steps.specs.declared.Taken.{Taken}

-- the first n of the codes are those of the last A0, and the words are the tender, if there is one
abbrev pub viewed : Standing → List ℕ → List ℕ → Log
viewed st codes words = record { ended = st.ended; codes = (take st.n codes); tender = cond st.opened (some (tender_in words)) none }

-- a reception answered with errors and a reply of k bytes, whose length no line tells, or refused
abbrev pub answer_told : Result Errors Refusal → ℕ → Answer
answer_told (Ok e) k = answer_to (listed e) k
answer_told (Err r) k = refused (number_of r)

-- what holds of every standing with its words
pub record Given (st : Standing) (words : List ℕ) : Type 0 where
  pub few : st.n ≤ 65
  pub tender : st.opened ≡ true → is_tender words ≡ true

-- the same of a log that has not ended
pub record Ready (st : Standing) (words : List ℕ) : Type 0 where
  pub unended : st.ended ≡ false
  pub given : Given st words

-- of the codes of an A0 a journal keeps the first 65, which tell all that opening asks
abbrev pub kept : Log → Log
kept l = record { ended = l.ended; codes = (take 65 l.codes); tender = l.tender }

-- the state and the lines that are expected of a field, with the codes and words that it leaves, from a space to what it holds after
pub record Takes (expected : Step) (space : List ℕ) (r : Taken) (codes words left : List ℕ) : Type 0 where
  pub state : kept expected.0 ≡ viewed r.standing codes words
  pub lines : Wrote space 0 expected.1 left r.length
  pub given : Given r.standing words

-- a field that ends the log gives no lines
abbrev pub ended_at : Standing → Taken
ended_at st = record { standing = record { ended = true; opened = st.opened; n = st.n }; length = 0 }

-- a call on the tender of the words: the words after it, and its lines, n bytes
pub record Calls (call : Tender → Tender × List ℕ) (words space after : List ℕ) (n : ℕ) (left : List ℕ) : Type 0 where
  pub tender_is : (call (tender_in words)).0 ≡ tender_in after
  pub lines : Wrote space 0 (call (tender_in words)).1 left n
  pub given : is_tender after ≡ true
