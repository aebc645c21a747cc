-- `award_lines::internal::put_place` meets its contract: four writes, chained. Assumes nothing.
use borrow.Author.Rules.{rules}
use native.Mathlib.Omega.{arith}
use Rattle.output.proofs.Output.{then, said}
use Rattle.digits.proofs.Writing.{digits_rest}
use Rattle.award_lines.proofs.internal.put_place.Goals as goal

pub returns : goal.returns
returns c =
    let place = c in
    let blank = place in
    let code = blank in
    let letter = code in
    let five = digits_rest 5 c.args.code in
    (then (omega arith) (then (omega arith) (then (omega arith) letter.put-number.ensures (said five code.put_digits-blank.ensures.0)) blank.put_byte-second.ensures) place.put_digits.ensures.0, search rules)
