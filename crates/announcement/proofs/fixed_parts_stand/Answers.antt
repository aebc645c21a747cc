-- `announcement::fixed_parts_stand` meets its contract. Assumes nothing.
use Rattle.announcement.proofs.fixed_parts_stand.Goals as goal

pub returns : goal.returns
returns c = rw (c.same.ensures, c.same-2.ensures, c.same-3.ensures)
