-- `words::internal::put_seven` meets its contract. Assumes nothing.
use Rattle.std.proofs.Common.{rules}
use Rattle.output.proofs.Output.{said}
use Rattle.words.proofs.Text.{slash-text}
use Rattle.words.proofs.internal.put_seven.Goals as goal

pub returns : goal.returns
returns c =
    let p = c.parted in
    let start = c.before.before.before.before.before.before in
    (said (slash-text p.result start.args.n p.ensures start.requires.1) c.put_word.ensures.0, search rules)
