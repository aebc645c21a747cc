-- `words::internal::after_slash` meets its contract. Assumes nothing.
use Rattle.words.proofs.Words.{after_slash_is}
use Rattle.words.proofs.internal.after_slash.Goals as goal

pub returns : goal.returns
returns c = after_slash_is c.args.s.now c.eight_bytes.result c.eight_bytes.ensures
