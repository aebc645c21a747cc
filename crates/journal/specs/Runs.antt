-- What a run of the code over the bytes of a session promises: the lines that it wrote and the log of what it left are the log. Assumes nothing.
use Rattle.std.specs.Prelude.{◌≡◌, ◌&&◌, not, false, List, [], ◌++◌, ℕ, ◌-◌, ◌≤◌, leb, length, take, drop}
use Rattle.output.specs.Output.{Wrote}
use Rattle.buffer.specs.Words.{tender_words}
use Rattle.log_rules.specs.Steps.{Log, start, holds_field, log_from, log_of}
use Rattle.endings.specs.Endings.{left_of}
use Rattle.steps.specs.Viewed as steps
use Rattle.journal.specs.declared.Logged.{Logged}
use Rattle.journal.specs.declared.internal.Ran.{Ran}
use Rattle.journal.specs.Viewed.{viewed, Given}

-- text is written at the start of the space, and the log of the bytes s from a state on, whatever follows them, is the text and then the log of what is left of them from the next state on; where it has not ended, it goes on past all fields that were taken
pub record Runs (from : Log) (s space : List ℕ) (to : Log) (left after : List ℕ) (n : ℕ) : Type 0 where
  pub text : List ℕ
  pub wrote : Wrote space 0 text after n
  pub log : (rest : List ℕ) → log_from from (s ++ rest) ≡ text ++ log_from to (left ++ rest)
  pub goes_on : to.ended ≡ false → (from.ended ≡ false) × ((rest : List ℕ) → left_of (s ++ rest) ≡ left_of (left ++ rest))

-- a run over an input: it leaves no whole field while the log has not ended and the space has room for 640 lines of 36 bytes, and gives a journal that may be handed to the next run
pub record Logs (from : Log) (input space : List ℕ) (r : Logged) (after : List ℕ) : Type 0 where
  pub runs : Runs from input space (viewed r.journal) (drop r.used input) after r.length
  pub within : r.used ≤ length input
  pub room : r.length ≤ length space
  pub all : (holds_field (drop r.used input) && not r.journal.ended && leb 23040 (length space - r.length)) ≡ false
  pub given : Given r.journal

-- the same of a run in codes and words that were lent: those that it left are as many, and may be lent to the next run
pub record LogsIn (from : Log) (input space : List ℕ) (r : Ran) (codes words after : List ℕ) : Type 0 where
  pub runs : Runs from input space (steps.viewed r.standing codes words) (drop r.used input) after r.length
  pub within : r.used ≤ length input
  pub room : r.length ≤ length space
  pub all : (holds_field (drop r.used input) && not r.standing.ended && leb 23040 (length space - r.length)) ≡ false
  pub given : steps.Given r.standing words
  pub codes-length : length codes ≡ 65
  pub words-length : length words ≡ tender_words

-- runs one after another over an input that arrives in pieces: each takes what the last one left and then more of the input
pub data RunsAll : Log → List ℕ → List ℕ → Type 0 where
  no_more : {l : Log} {s : List ℕ} → (holds_field s && not l.ended) ≡ false → RunsAll l s []
  and_next :
      {l k : Log} {s left text space after : List ℕ} {n : ℕ} (rest : List ℕ)
      → Runs l s space k left after n
      → RunsAll k (left ++ rest) text
      → RunsAll l (s ++ rest) (take n after ++ text)

-- the lines of all runs are document 01's log
abbrev pub LogOfRuns : Type 0
LogOfRuns = (s text : List ℕ) → RunsAll start s text → text ≡ log_of s
