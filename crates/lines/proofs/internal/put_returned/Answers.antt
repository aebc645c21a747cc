-- `lines::internal::put_returned` meets its contract. Assumes nothing.
use Prim.Native.Nat.{zero-le}
use Rattle.errors.specs.Listed.{listed}
use Rattle.output.proofs.Output.{then, said}
use Rattle.lines.proofs.Parts.{returned_parts}
use Rattle.lines.proofs.internal.put_returned.Goals as goal

pub returns : goal.returns
returns c =
    let clock = c.put_clock-sender in
    let sender = c.put_sender-blank in
    let blank = c.put_byte-errors in
    let errors = c.put_errors-end in
    let end = c.put_byte in
    let a = c.args in
    said (returned_parts a.s.now a.m.now (listed a.e)) (then zero-le (then zero-le (then zero-le (then zero-le clock.ensures.0 sender.ensures.0) blank.ensures) errors.ensures.0) end.ensures)
