-- `endings::internal::put_ending` meets its contract. Assumes nothing.
use Prim.Native.Nat.{zero-le}
use native.Mathlib.Omega.{arith}
use Rattle.output.proofs.Output.{then}
use Rattle.endings.specs.Endings.{ending_text}
use Rattle.endings.proofs.internal.put_ending.Goals as goal

pub returns : goal.returns
unfolding ending_text
returns c =
    let start = c.put-number in
    let number = c.put_decimal-colon in
    let colon = c.put-why in
    let why = c.put_why-end in
    let end = c.put_byte in
    (then zero-le (then zero-le (then zero-le (then zero-le start.ensures number.ensures.0) colon.ensures) why.ensures.0) end.ensures, omega (arith, start.ensures.past, number.ensures.1, colon.ensures.past, why.ensures.1, end.ensures.past))
