-- `calendar::days_in` meets its contract. Assumes nothing.
use mathlib.Core.Path.{sym, ◌∙◌}
use Rattle.std.proofs.Common.{rules}
use Rattle.calendar.specs.Calendar.{days_in}
use Rattle.calendar.proofs.days_in.Goals as goal

pub returns-in-2 : goal.returns-in-2
unfolding days_in
returns-in-2 c = rw (c.in-2.is, sym c.leap_year.ensures ∙ c.if-leap_year.true)

pub returns-in-2-2 : goal.returns-in-2-2
unfolding days_in
returns-in-2-2 c = rw (c.in-2.is, sym c.leap_year.ensures ∙ c.if-leap_year.false)

pub returns-in-4 : goal.returns-in-4
unfolding days_in
returns-in-4 c = search rules

pub returns-in_default : goal.returns-in_default
unfolding days_in
returns-in_default c = search rules
