-- `places::internal::is_formed` meets its contract. Assumes nothing.
use Rattle.places.proofs.internal.is_formed.Goals as goal

pub returns : goal.returns
returns c = rw (c.all_small.ensures, c.all_small-2.ensures, c.all_small-3.ensures)
