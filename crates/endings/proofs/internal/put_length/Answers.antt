-- `endings::internal::put_length` meets its contract. Assumes nothing.
use native.Mathlib.Omega.{arith}
use Rattle.output.proofs.Output.{then}
use Rattle.endings.specs.Endings.{length_text}
use Rattle.endings.proofs.internal.put_length.Goals as goal

pub returns : goal.returns
unfolding length_text
returns c =
    let name = c.put-name in
    let tag = c.put_hex-is in
    let is = c.put-number in
    let number = c.put_decimal-end in
    let end = c.put in
    let room = c.requires in
    (then (omega arith) (then (omega arith) (then (omega arith) (then (omega arith) name.ensures tag.ensures.0) is.ensures) number.ensures.0) end.ensures, omega (arith, room.1, name.ensures.past, tag.ensures.1, is.ensures.past, number.ensures.1, end.ensures.past))
