-- What the program promises of a reader and a writer whose bytes are known: what it writes is the log of all that the reader has. Assumes nothing.
use Rattle.std.specs.Prelude.{◌≡◌, true, false, List, [], ℕ, ◌+◌, ◌-◌, ◌*◌, ◌<◌, ◌≤◌, length, take, Option, None, IfSome}
use Rattle.std.specs.Io.KnownBytes.{Consumes, Appends, IsAtEnd}
use Rattle.log_rules.specs.Steps.{log_of}
use Rattle.endings.specs.Endings.{left_of, ending_text}
use Rattle.session_log.specs.declared.Turn.{Turn}
use Rattle.session_log.specs.Turns.{got, counted, ending_of}

-- a turn that reads, between the bytes that a reader has left before and after: it got the next ones, and where nothing failed and there is no more to do it got none, since the reader has none left
pub record Draws (left left₂ : Option (List ℕ)) (t : Turn) (input : List ℕ) (r : Turn) (after : List ℕ) : Type 0 where
  pub drawn : Consumes left left₂ (got t input r after)
  pub goes_on : r.more ≡ true → (r.failed ≡ None) × (0 < length (got t input r after))
  pub at_end : r.more ≡ false → r.failed ≡ None → (got t input r after ≡ []) × (t.to - t.from < length input → IsAtEnd left₂)

-- a turn that takes fields, between the bytes that a writer holds before and after: its lines were written, unless that failed, there is no more to do only where the log has ended, and a turn that gave no line reads next
pub record Writes (held held₂ : Option (List ℕ)) (r : Turn) (space : List ℕ) : Type 0 where
  pub written : r.failed ≡ None → Appends held held₂ (take r.length space)
  pub goes_on : r.more ≡ true → (r.failed ≡ None) × (r.standing.ended ≡ false)
  pub ends : r.more ≡ false → r.failed ≡ None → r.standing.ended ≡ true
  pub gave : r.reads ≡ false → 0 < r.length

-- all turns together, in a buffer with room for any field: the log of the bytes that were read was written, it is the log of all that the reader had, and the line of the ending is that of the bytes that were read
pub record LogsAll (left left₂ held held₂ : Option (List ℕ)) (r : Turn) (input : List ℕ) : Type 0 where
  pub read : List ℕ
  pub drawn : Consumes left left₂ read
  pub written : Appends held held₂ (log_of read)
  pub all : 65538 ≤ length input → IfSome left (λ xs. log_of xs ≡ log_of read)
  pub line : ending_of r input ≡ ending_text (counted 0 (length read - length (left_of read))) (left_of read)

-- all turns together, where there is more to do after the last of them: they were 2^64 - 1, and no turn was made for nothing
pub record TurnsUsed (left left₂ held held₂ : Option (List ℕ)) : Type 0 where
  pub read : List ℕ
  pub written : List ℕ
  pub drawn : Consumes left left₂ read
  pub appended : Appends held held₂ written
  pub many : 18446744073709551615 ≤ 2 * length read + length written
