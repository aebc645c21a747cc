-- `division::binary_length` meets its contract: leading zeros and length make 64. Assumes nothing.
use Rattle.std.proofs.Common.{arith}
use lib.Count.{leading_le}
use Rattle.division.proofs.Rounds.{leading_and_length}
use Rattle.division.proofs.binary_length.Goals as goal

pub overflow_sub-result : goal.overflow_sub-result
overflow_sub-result c = leading_le 64 c.args.a.0

pub returns : goal.returns
returns c = omega (arith, leading_and_length 64 c.args.a.0 (omega arith))
