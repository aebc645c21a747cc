-- `checks::internal::other_type` meets its contract. Assumes nothing.
use Rattle.checks.proofs.internal.other_type.Goals as goal

pub returns : goal.returns
returns c = rw (c.same.ensures, c.bytes_in.ensures.0)
