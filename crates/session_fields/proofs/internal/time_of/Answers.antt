-- `session_fields::internal::time_of` meets its contract. Assumes nothing.
use mathlib.Core.Path.{ap, ◌∙◌}
use Rattle.digits.specs.Decimal.{digits_of, number_in}
use Rattle.log_rules.specs.Steps.{time_of}
use Rattle.session_fields.proofs.Clock.{time-bytes}
use Rattle.session_fields.proofs.internal.time_of.Goals as goal

pub returns : goal.returns
unfolding time_of
returns c =
    let s = c.args.s.now in
    c.unwrap_or.ensures ∙ ap number_in (c.last_of_eight.ensures ∙ ap digits_of (time-bytes s))
