-- `endings::text::put_decimal` meets its contract. Assumes nothing.
use mathlib.Core.Path.{refl}
use native.Mathlib.Omega.{arith}
use Rattle.output.proofs.Output.{said}
use Rattle.endings.proofs.Numbers.{decimal-written, part_short}
use Rattle.endings.proofs.text.put_decimal.Goals as goal

pub returns : goal.returns
returns c =
    let a = c.args in
    let text = c.put_digits in
    let first = c.past_zeros-first in
    let end = c.put in
    let past = end.ensures.past in
    let short = part_short first.result text.new.space in
    (said (decimal-written _ text.new.space a.n text.result first.result refl text.ensures.0 first.ensures.0) end.ensures, omega (arith, past, short))
