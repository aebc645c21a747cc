-- `replies::internal::put_origin` meets its contract. Assumes nothing.
use native.Mathlib.Omega.{arith}
use Rattle.output.proofs.Output.{then}
use Rattle.replies.proofs.internal.put_origin.Goals as goal

pub returns : goal.returns
returns c =
    let cro = c in
    let sender = cro in
    (then (omega arith) sender.put_field-original.ensures.0 cro.put_field.ensures.0, omega (arith, sender.put_field-original.ensures.1, cro.put_field.ensures.1))
