-- `words::internal::lowered_after` meets its contract. Assumes nothing.
use Rattle.std.proofs.Common.{arith, lit<}
use lib.Bits.{xor_lt}
use Rattle.words.proofs.Words.{lowered_after_is}
use Rattle.words.proofs.internal.lowered_after.Goals as goal

pub returns : goal.returns
returns c = let a = c.args in lowered_after_is a.k a.s.now c.eight_bytes.result c.eight_bytes.ensures (xor_lt 64 c.eight_bytes.result 3472328296227680304 (omega arith) (lit< tt))
