-- The code's journal as the log of document 01. Assumes nothing.
use Rattle.std.specs.Prelude.{◌≡◌, true, cond, ◌≤◌, take}
use Rattle.std.proofs.Math.Option.{none, some}
use Rattle.buffer.specs.Words.{tender_in, is_tender}
use Rattle.log_rules.specs.Steps.{Log}
use Rattle.journal.specs.declared.Journal.{Journal}

abbrev pub viewed : Journal → Log
viewed j = record { ended = j.ended; codes = (take j.n j.codes); tender = cond j.opened (some (tender_in j.words)) none }

-- what holds of every journal that the start or a run gave
pub record Given (j : Journal) : Type 0 where
  pub few : j.n ≤ 65
  pub tender : j.opened ≡ true → is_tender j.words ≡ true
