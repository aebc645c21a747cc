-- `replies::internal::put_confirmation` meets its contract: five writes, chained. Assumes nothing.
use Prim.Native.Nat.{zero-le}
use Rattle.output.proofs.Output.{then, said}
use Rattle.replies.proofs.Texts.{confirmation_parts}
use Rattle.replies.proofs.internal.put_confirmation.Goals as goal

pub returns : goal.returns
returns c =
    let last = c in
    let time = last in
    let origin = time in
    let treasury = origin in
    let kind = treasury in
    let a = kind.args in
    said (confirmation_parts a.kind.now a.sender.now a.cro.now a.last.now a.time)
    (then zero-le (then zero-le (then zero-le (then zero-le kind.put_field-treasury.ensures.0 treasury.put_field-origin.ensures.0) origin.put_origin-reception.ensures.0) time.put_time-tail.ensures.0) last.put_field.ensures.0)
