-- `replies::internal::put_time` meets its contract. Assumes nothing.
use borrow.Author.Rules.{rules}
use native.Mathlib.Omega.{arith}
use Rattle.output.proofs.Output.{then, said}
use Rattle.envelope.proofs.Promise.{number-field}
use Rattle.replies.proofs.internal.put_time.Goals as goal

pub returns : goal.returns
returns c = (said (number-field 0x60 6 c.args.time) (then (omega arith) c.put_head-start.ensures c.put_digits.ensures.0), search rules)
