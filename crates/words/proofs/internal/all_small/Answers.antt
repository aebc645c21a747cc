-- `words::internal::all_small` meets its contract. Assumes nothing.
use Rattle.std.proofs.Common.{arith}
use Rattle.words.proofs.Words.{each, word_tested}
use Rattle.words.proofs.internal.all_small.Goals as goal

pub returns : goal.returns
unfolding each
returns c = word_tested c.args.t c.wrapping_add_u64.result (omega arith) c.wrapping_add_u64.ensures.value
