-- `numbers::internal::put_three` meets its contract. Assumes nothing.
use native.Mathlib.Omega.{arith}
use Rattle.output.proofs.Output.{then}
use Rattle.numbers.proofs.internal.put_three.Goals as goal

pub returns : goal.returns
returns c = then (omega arith) (then (omega arith) c.put-second.ensures c.put-third.ensures) c.put.ensures
