-- `words::internal::last_of_eight` meets its contract. Assumes nothing.
use Rattle.std.proofs.Common.{drop}
use Rattle.words.proofs.internal.last_of_eight.Goals as goal

pub returns : goal.returns
returns c = let a = c.args in c.held.ensures (drop a.k a.s.now) c.lowered_after.ensures
