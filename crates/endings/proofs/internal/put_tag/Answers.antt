-- `endings::internal::put_tag` meets its contract. Assumes nothing.
use native.Mathlib.Omega.{arith}
use Rattle.output.proofs.Output.{then}
use Rattle.endings.specs.Endings.{tag_text}
use Rattle.endings.proofs.internal.put_tag.Goals as goal

pub returns : goal.returns
unfolding tag_text
returns c =
    let name = c.put-name in
    let tag = c.put_hex-end in
    let end = c.put in
    (then (omega arith) (then (omega arith) name.ensures tag.ensures.0) end.ensures, omega (arith, name.ensures.past, tag.ensures.1, end.ensures.past))
