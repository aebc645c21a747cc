-- `words::internal::four_bytes` meets its contract. Assumes nothing.
use Rattle.std.proofs.Common.{get_or, ◌∙◌, arith}
use Rattle.words.proofs.Words.{four_bytes, four_are}
use Rattle.words.proofs.internal.four_bytes.Goals as goal

pub returns : goal.returns
returns c =
    let s = c.args.s.now in (
      rw (c.from.ensures, c.from-2.ensures, c.from-3.ensures, c.from-4.ensures) (four_bytes (get_or s 0 0) (get_or s 1 0) (get_or s 2 0) (get_or s 3 0) (omega arith) (omega arith) (omega arith) (omega arith) ∙ four_are s (omega arith)),
      omega arith,
    )
