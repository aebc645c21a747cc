-- `envelope::application::put_number` meets its contract: a head and digits are a field. Assumes nothing.
use borrow.Author.Rules.{rules}
use native.Mathlib.Omega.{arith}
use Rattle.output.proofs.Output.{then, said}
use Rattle.envelope.proofs.Writing.{number-field}
use Rattle.envelope.proofs.application.put_number.Goals as goal

pub returns : goal.returns
returns c =
    let number = c in
    let first = number in
    let a = first.args in
    (said (number-field a.tag a.w a.n) (then (omega arith) first.put_head-start.ensures number.put_digits.ensures.0), search rules)
