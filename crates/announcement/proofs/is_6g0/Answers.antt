-- `announcement::is_6g0` meets its contract: the code's bytes are the layout. Assumes nothing.
use Rattle.layout.specs.Fields.{layout_of}
use Rattle.announcement.specs.Announcement.{layout6_g0}
use Rattle.announcement.proofs.Fields6G0.{other_length_6g0}
use Rattle.announcement.proofs.is_6g0.Goals as goal

pub returns-then-m-ne225 : goal.returns-then-m-ne225
returns-then-m-ne225 c = other_length_6g0 _ c.if-m-ne225.true

pub returns : goal.returns
unfolding layout6_g0 layout_of
returns c = c.readable.ensures
