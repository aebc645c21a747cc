-- `terms::references_formed` meets its contract. Assumes nothing.
use Rattle.terms.specs.Viewed.{references_formed}
use Rattle.terms.proofs.references_formed.Goals as goal

pub returns : goal.returns
unfolding references_formed
returns c = rw (c.is_some.ensures, c.is_some-2.ensures, c.is_date.ensures, c.is_time.ensures)
