-- `words::internal::number_at` meets its contract. Assumes nothing.
use Rattle.std.proofs.Common.{ap, ◌∙◌, arith}
use Rattle.digits.specs.Decimal.{digits_of}
use Rattle.words.proofs.Parts.{last-part}
use Rattle.words.proofs.internal.number_at.Goals as goal

pub returns : goal.returns
returns c =
    let a = c.args in
    let p = c.requires in
    c.last_of_eight.ensures ∙ ap digits_of (last-part a.s.now a.from a.to (omega arith) (omega arith) (omega arith) (omega arith))
