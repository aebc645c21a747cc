-- `envelope::application::put_text_field` meets its contract: a head and a text are a field. Assumes nothing.
use native.Mathlib.Omega.{arith}
use Rattle.output.proofs.Output.{then}
use Rattle.layout.specs.Fields.{field}
use Rattle.envelope.proofs.application.put_text_field.Goals as goal

pub returns : goal.returns
unfolding field
returns c =
    let text = c in
    let first = text in
    (then (omega arith) first.put_head-start.ensures text.put_text.ensures, omega (arith, first.put_head-start.ensures.past, text.put_text.ensures.past))
