-- `announcement::read` meets its contract. Assumes nothing.
use mathlib.Core.Path.{sym, ◌∙◌}
use Rattle.announcement.specs.Announcement.{reading}
use Rattle.announcement.proofs.read.Goals as goal

pub announcement_of-requires : goal.announcement_of-requires
announcement_of-requires c = sym c.is_6g0.ensures ∙ c.if-is_6g0.true

pub returns-then-is_6g0 : goal.returns-then-is_6g0
unfolding reading
returns-then-is_6g0 c = rw (sym c.is_6g0.ensures ∙ c.if-is_6g0.true, c.announcement_of.ensures)

pub returns-else-is_6g0 : goal.returns-else-is_6g0
unfolding reading
returns-else-is_6g0 c = rw (sym c.is_6g0.ensures ∙ c.if-is_6g0.false)
