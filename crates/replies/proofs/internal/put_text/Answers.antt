-- `replies::internal::put_text` meets its contract: IDC, dash and code, chained. Assumes nothing.
use borrow.Author.Rules.{rules}
use native.Mathlib.Omega.{arith}
use Rattle.output.proofs.Output.{then}
use Rattle.rules.specs.Replies.{error_text}
use Rattle.errors.specs.Listed.{named}
use Rattle.replies.proofs.internal.put_text.Goals as goal

pub returns : goal.returns
unfolding error_text named
returns c = (then (omega arith) (then (omega arith) c.put_idc-dash.ensures.0 c.put-number.ensures) c.put_digits.ensures.0, search rules)
