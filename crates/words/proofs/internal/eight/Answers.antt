-- `words::internal::eight` meets its contract. Assumes nothing.
use Rattle.words.proofs.internal.eight.Goals as goal

pub returns : goal.returns
returns c = c.held.ensures c.args.s.now c.lowered.ensures
