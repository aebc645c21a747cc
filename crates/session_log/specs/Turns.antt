-- What the turns of the program promise: the bytes that were read go to the runs in order, none twice and none lost, and the lines of the runs to the write. Assumes nothing.
use Rattle.std.specs.Prelude.{◌≡◌, Bool, true, false, not, ◌&&◌, List, [], ◌++◌, ℕ, ◌+◌, ◌-◌, ◌≤◌, min, length, Result, is_err, take, drop}
use Rattle.buffer.specs.Words.{tender_words}
use Rattle.log_rules.specs.Steps.{holds_field, log_from, log_of}
use Rattle.log_rules.specs.Steps as log
use Rattle.journal.specs.Runs.{Runs}
use Rattle.steps.specs.Viewed.{viewed, Given}
use Rattle.endings.specs.Endings.{left_of, ending_text}
use Rattle.session_log.specs.declared.Turn.{Turn}

-- the bytes that were read and not yet taken: they stand in the buffer between two indices
abbrev pub waiting : Turn → List ℕ → List ℕ
waiting t input = take (t.to - t.from) (drop t.from input)

-- the bytes that the last run was handed
abbrev pub handed : Turn → List ℕ → List ℕ
handed t input = take (t.to - t.last) (drop t.last input)

-- a turn whose indices lie in the buffer
pub record Within (t : Turn) (input : List ℕ) : Type 0 where
  pub begun : t.last ≤ t.from
  pub ordered : t.from ≤ t.to
  pub inside : t.to ≤ length input

-- the journal of a turn: its standing with the 65 codes and the words of a tender that a run left
pub record Journal (t : Turn) (codes words : List ℕ) : Type 0 where
  pub given : Given t.standing words
  pub codes-length : length codes ≡ 65
  pub words-length : length words ≡ tender_words

-- a text is the lines of the fields that were taken between two turns: the log from the first turn on is the text and then the log from the second on, whatever follows
abbrev pub Lines : Turn → List ℕ → List ℕ → Turn → List ℕ → List ℕ → List ℕ → List ℕ → Type 0
Lines t codes words r codes₂ words₂ input text =
    (rest : List ℕ) → log_from (viewed t.standing codes words) (waiting t input ++ rest) ≡ text ++ log_from (viewed r.standing codes₂ words₂) (waiting r input ++ rest)

-- no whole field waits, or the log has ended
abbrev pub NoneWhole : Turn → List ℕ → Type 0
NoneWhole t input = (holds_field (waiting t input) && not t.standing.ended) ≡ false

-- a turn that takes fields: all that waits was handed to one run, what it left waits where it stands, and its lines are the first bytes of the space
pub record TakesFields (t : Turn) (codes words input space : List ℕ) (r : Turn) (codes₂ words₂ after : List ℕ) : Type 0 where
  pub runs : Runs (viewed t.standing codes words) (waiting t input) space (viewed r.standing codes₂ words₂) (waiting r input) after r.length
  pub room : r.length ≤ length space
  pub within : Within r input
  pub journal : Journal r codes₂ words₂
  pub all : r.reads ≡ true → NoneWhole r input
  pub before-kept : r.before ≡ t.before
  pub began : r.last ≡ t.from
  pub handed-all : handed r input ≡ waiting t input

-- a number counted up, no further than to the largest of 64 bits
abbrev pub counted : ℕ → ℕ → ℕ
counted n more = min (n + more) 18446744073709551615

-- what a call that failed answers
abbrev pub is_failed : {E : Type 0} → Result ℕ E → Bool
is_failed r = is_err r

-- a turn that reads: what waited stands at the start of the buffer, and behind it what was read; what stood before it is counted
pub record ReadsMore (t : Turn) (input : List ℕ) (r : Turn) (after : List ℕ) : Type 0 where
  pub kept : waiting r after ≡ waiting t input ++ drop (length (waiting t input)) (waiting r after)
  pub standing_kept : r.standing ≡ t.standing
  pub within : Within r after
  pub takes_next : r.reads ≡ false
  pub before-counted : r.before ≡ counted t.before t.from
  pub from_start : (r.from ≡ 0) × (r.last ≡ 0)

-- a turn reads or takes fields, as the last one said; one that reads keeps the codes and the words
pub record Turned (t : Turn) (codes words input space : List ℕ) (r : Turn) (codes₂ words₂ input₂ after : List ℕ) : Type 0 where
  pub read : t.reads ≡ true → (codes₂ ≡ codes) × (words₂ ≡ words) × ReadsMore t input r input₂
  pub taken : t.reads ≡ false → (input₂ ≡ input) × TakesFields t codes words input space r codes₂ words₂ after

-- the bytes that a turn read
abbrev pub got : Turn → List ℕ → Turn → List ℕ → List ℕ
got t input r after = drop (length (waiting t input)) (waiting r after)

-- turns one after another, each with the codes and words that the last one left: the bytes that they read, joined, and the lines that they handed to the write, joined
pub data TurnsAll : Turn → List ℕ → List ℕ → List ℕ → List ℕ → List ℕ → Type 0 where
  no_more : {t : Turn} {codes words input : List ℕ} → NoneWhole t input → TurnsAll t codes words input [] []
  and_reads :
      {t r : Turn} {codes words input after read text : List ℕ}
      → ReadsMore t input r after
      → TurnsAll r codes words after read text
      → TurnsAll t codes words input (got t input r after ++ read) text
  and_takes :
      {t r : Turn} {codes words codes₂ words₂ input space after read text : List ℕ}
      → TakesFields t codes words input space r codes₂ words₂ after
      → TurnsAll r codes₂ words₂ input read text
      → TurnsAll t codes words input read (take r.length after ++ text)

-- from the first turn on, the lines handed to the write are document 01's log of the bytes read
abbrev pub LogOfTurns : Type 0
LogOfTurns =
    (t : Turn) (codes words input read text : List ℕ)
    → viewed t.standing codes words ≡ log.start
    → waiting t input ≡ []
    → TurnsAll t codes words input read text
    → text ≡ log_of read

-- the line of a turn after which there is no more to do: for the offset in the session of what is left of what the last run was handed
abbrev pub ending_of : Turn → List ℕ → List ℕ
ending_of t input =
    ending_text (counted (counted t.before t.last) (length (handed t input) - length (left_of (handed t input)))) (left_of (handed t input))

-- turns one after another, each made while the log has not ended: the bytes that they read, joined, and the turn and the buffer that they lead to
pub data TurnsTo : Turn → List ℕ → List ℕ → List ℕ → List ℕ → Turn → List ℕ → Type 0 where
  stays : {t : Turn} {codes words input : List ℕ} → TurnsTo t codes words input [] t input
  then_reads :
      {t r e : Turn} {codes words input after read last : List ℕ}
      → t.standing.ended ≡ false
      → ReadsMore t input r after
      → TurnsTo r codes words after read e last
      → TurnsTo t codes words input (got t input r after ++ read) e last
  then_takes :
      {t r e : Turn} {codes words codes₂ words₂ input space after read last : List ℕ}
      → t.standing.ended ≡ false
      → TakesFields t codes words input space r codes₂ words₂ after
      → TurnsTo r codes₂ words₂ input read e last
      → TurnsTo t codes words input read e last

-- from the first turn on, the line of an ending is that of the bytes read: its offset is where what is left of all of them starts
abbrev pub EndingOfTurns : Type 0
EndingOfTurns =
    (t : Turn) (codes words input read : List ℕ) (e : Turn) (last : List ℕ)
    → t.standing.ended ≡ false
    → (t.before ≡ 0) × (t.to ≡ 0)
    → Within t input
    → TurnsTo t codes words input read e last
    → ending_of e last ≡ ending_text (counted 0 (length read - length (left_of read))) (left_of read)
