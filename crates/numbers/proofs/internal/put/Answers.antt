-- `numbers::internal::put` meets its contract. Assumes nothing.
use borrow.Author.Rules.{rules}
use Rattle.output.proofs.Output.{one_byte}
use Rattle.numbers.proofs.internal.put.Goals as goal

pub returns : goal.returns
returns c = record { bytes = one_byte _ _ _ (search rules); past = search rules }
