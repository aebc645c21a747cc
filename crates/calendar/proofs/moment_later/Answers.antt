-- `calendar::moment_later` meets its contract. Assumes nothing.
use Rattle.calendar.proofs.moment_later.Goals as goal

pub returns : goal.returns
returns c = rw c.date_before.ensures
