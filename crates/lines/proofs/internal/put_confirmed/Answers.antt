-- `lines::internal::put_confirmed` meets its contract. Assumes nothing.
use Prim.Native.Nat.{zero-le}
use Rattle.output.proofs.Output.{then, said}
use Rattle.lines.proofs.Parts.{confirmed_parts}
use Rattle.lines.proofs.internal.put_confirmed.Goals as goal

pub returns : goal.returns
returns c =
    let clock = c.put_clock-sender in
    let sender = c.put_sender-end in
    let end = c.put_byte in
    let a = c.args in
    said (confirmed_parts a.s.now a.m.now) (then zero-le (then zero-le clock.ensures.0 sender.ensures.0) end.ensures)
