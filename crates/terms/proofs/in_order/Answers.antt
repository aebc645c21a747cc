-- `terms::in_order` meets its contract. Assumes nothing.
use Rattle.terms.specs.Viewed.{dates_in_order}
use Rattle.terms.proofs.in_order.Goals as goal

pub returns : goal.returns
unfolding dates_in_order
returns c = rw (c.dates_ordered.ensures, c.unwrap_or.ensures, c.unwrap_or-2.ensures, c.unwrap_or-3.ensures, c.requires)
