-- `announcement::dates_ordered` meets its contract. Assumes nothing.
use Rattle.announcement.proofs.dates_ordered.Goals as goal

pub returns : goal.returns
returns c = rw (c.date_before.ensures, c.date_before-2.ensures, c.date_before-3.ensures)
