-- `words::internal::eight_bytes` meets its contract. Assumes nothing.
use Rattle.std.proofs.Common.{◌++◌, ◌∙◌, ap₂}
use Rattle.words.proofs.Words.{halves, halves_are}
use Rattle.words.proofs.internal.eight_bytes.Goals as goal

pub returns : goal.returns
returns c =
    let a = c.four_bytes in
    let b = c.four_bytes-2 in
    halves a.result b.result a.ensures.1 ∙ ap₂ ◌++◌ a.ensures.0 b.ensures.0 ∙ halves_are c.args.s.now c.requires
