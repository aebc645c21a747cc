-- `calendar::valid_date` meets its contract. Assumes nothing.
use Rattle.calendar.proofs.valid_date.Goals as goal

pub returns : goal.returns
returns c = rw c.days_in.ensures
