-- `layout::internal::put_field` meets its contract: head and contents, chained. Assumes nothing.
use native.Mathlib.Omega.{arith}
use Rattle.layout.specs.Fields.{field}
use Rattle.output.proofs.Output.{then}
use Rattle.layout.proofs.internal.put_field.Goals as goal

pub returns : goal.returns
unfolding field
returns c = (then (omega arith) c.put_head-start.ensures c.put.ensures, omega arith)
