-- What the calls of Calls are made of; a maker needs none of it. Assumes nothing.
use Rattle.std.proofs.Math.Option.{Option}
use Rattle.std.specs.Prelude.{ℕ}
use Rattle.envelope.specs.Refusals.{unless_refused}
use Rattle.rules.specs.Calls as rules

-- closing, allotting and revoking change the state alone, and that only where they are not refused
abbrev pub changed_unless : Option ℕ → rules.State → rules.Tender → Option ℕ × rules.Tender
changed_unless refusal s t = (refusal, unless_refused refusal t (rules.in_state s t))
