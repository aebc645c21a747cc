-- `words::internal::put_digits` meets its contract: the digits before the last eight, and those, chained. Assumes nothing.
use Rattle.std.proofs.Common.{arith, rules}
use Rattle.output.proofs.Output.{then, said}
use Rattle.words.proofs.Text.{last_eight}
use Rattle.words.proofs.internal.put_digits.Goals as goal

pub returns : goal.returns
returns c =
    let last = c.before.before in
    let first = last.before.before.before.before in
    let a = first.args in
    (said (last_eight a.w a.n (omega arith)) (then (omega arith) first.put_digits-last.ensures.0 last.put_eight.ensures.0), search rules)
