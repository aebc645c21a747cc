-- `words::internal::put_eight` meets its contract. Assumes nothing.
use Rattle.std.proofs.Common.{rules}
use Rattle.output.proofs.Output.{said}
use Rattle.words.proofs.Text.{word_text}
use Rattle.words.proofs.internal.put_eight.Goals as goal

pub returns : goal.returns
returns c =
    let p = c.parted in
    (said (word_text p.result c.args.n p.ensures) c.put_word.ensures.0, search rules)
