-- `layout::internal::put_head` meets its contract: three writes, chained. Assumes nothing.
use Prim.Native.Nat.{◌≤◌}
use native.Mathlib.Omega.{arith}
use lib.ListN.{length}
use Rattle.output.proofs.Output.{then}
use Rattle.layout.proofs.internal.put_head.Goals as goal

pub returns : goal.returns
returns c =
    let p3 = c.before.before in
    let p2 = p3.before.before.before.before in
    let p1 = p2.before.before.before.before in
    let h : p1.args.at ≤ length p1.args.space.now = omega arith in
    then h (then h p1.put_byte-high.ensures p2.put_byte-low.ensures) p3.put_byte.ensures
