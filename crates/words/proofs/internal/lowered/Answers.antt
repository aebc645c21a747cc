-- `words::internal::lowered` meets its contract. Assumes nothing.
use Rattle.words.proofs.Words.{lowered_is}
use Rattle.words.proofs.internal.lowered.Goals as goal

pub returns : goal.returns
returns c = lowered_is c.args.s.now c.eight_bytes.result c.eight_bytes.ensures
