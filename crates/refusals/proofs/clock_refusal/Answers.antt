-- `refusals::clock_refusal` meets its contract. Assumes nothing.
use mathlib.Core.Path.{◌≡◌, sym, ap₂, ◌∙◌}
use mathlib.Core.Bool.{Bool, ◌&&◌}
use Rattle.calendar.specs.Calendar.{valid_date, valid_time}
use Rattle.envelope.specs.Refusals.{first_holding}
use Rattle.rules.specs.Calls.{clock_invalid}
use Rattle.refusals.proofs.clock_refusal.Goals as goal

pub returns-then-valid_date-valid_time : goal.returns-then-valid_date-valid_time
unfolding first_holding clock_invalid
returns-then-valid_date-valid_time c =
    let valid : (valid_date c.args.date && valid_time c.args.time) ≡ (c.valid_date.result && c.valid_time.result) = ap₂ (λ (x y : Bool). x && y) (sym c.valid_date.ensures) (sym c.valid_time.ensures) in
    sym (rw (valid ∙ c.if-valid_date-valid_time.true))

pub returns : goal.returns
unfolding first_holding clock_invalid
returns c =
    let valid : (valid_date c.args.date && valid_time c.args.time) ≡ (c.valid_date.result && c.valid_time.result) = ap₂ (λ (x y : Bool). x && y) (sym c.valid_date.ensures) (sym c.valid_time.ensures) in
    sym (rw (valid ∙ c.if-valid_date-valid_time.false))
