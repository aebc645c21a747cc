-- `checks::internal::other_identifier` meets its contract. Assumes nothing.
use Rattle.checks.proofs.internal.other_identifier.Goals as goal

pub returns : goal.returns
returns c = rw (c.same.ensures, c.bytes_in.ensures.0)
