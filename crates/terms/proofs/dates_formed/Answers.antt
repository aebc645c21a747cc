-- `terms::dates_formed` meets its contract. Assumes nothing.
use Rattle.terms.specs.Viewed.{dates_formed}
use Rattle.terms.proofs.dates_formed.Goals as goal

pub returns : goal.returns
unfolding dates_formed
returns c = rw (c.valid_date.ensures, c.is_date.ensures, c.is_date-2.ensures, c.is_time.ensures, c.requires)
