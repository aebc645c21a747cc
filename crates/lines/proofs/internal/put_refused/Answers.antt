-- `lines::internal::put_refused` meets its contract. Assumes nothing.
use Prim.Native.Nat.{zero-le}
use Rattle.output.proofs.Output.{then}
use Rattle.log_rules.specs.Lines.{refused_line}
use Rattle.lines.proofs.internal.put_refused.Goals as goal

pub returns : goal.returns
unfolding refused_line
returns c =
    let start = c.put-start in
    let number = c.put_digits-end in
    let end = c.put_byte in
    then zero-le (then zero-le start.ensures number.ensures.0) end.ensures
