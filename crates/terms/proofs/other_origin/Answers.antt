-- `terms::other_origin` meets its contract. Assumes nothing.
use Rattle.rules.specs.Opening.{other_origin}
use Rattle.terms.proofs.other_origin.Goals as goal

pub returns : goal.returns
unfolding other_origin
returns c = rw (c.same.ensures, c.same-2.ensures, c.bytes_in.ensures.0, c.bytes_in-2.ensures.0)
