-- `addresses::internal::put_branch` meets its contract: five parts, chained. Assumes nothing.
use mathlib.Core.Path.{◌≡◌}
use Prim.Native.Nat.{◌+◌, ◌≤◌}
use native.Mathlib.Omega.{arith}
use lib.ListN.{length}
use Rattle.output.proofs.Output.{then, said}
use Rattle.addresses.proofs.Writing.{branch_parts}
use Rattle.addresses.proofs.internal.put_branch.Goals as goal

pub returns : goal.returns
returns c =
    let p5 = c.before.before in
    let p4 = p5.before.before.before.before in
    let p3 = p4.before.before.before.before in
    let p2 = p3.before.before.before.before in
    let p1 = p2.before.before.before.before in
    let start = p1.before.before.before in
    let a = start.args in
    let room : a.at ≤ length a.space.now = omega (arith, start.requires) in
    let t1 = p1.put_byte-start.ensures in
    let t2 = then room t1 p2.put_digits-end.ensures.0 in
    let t3 = then room t2 p3.put_byte-text.ensures in
    let t4 = then room t3 p4.put_byte-last.ensures in
    let w = then room t4 p5.put_byte.ensures in
    let e : p5.put_byte.result ≡ a.at + 9 = omega (arith, p1.put_byte-start.ensures.past, p2.put_digits-end.ensures.1, p3.put_byte-text.ensures.past, p4.put_byte-last.ensures.past, p5.put_byte.ensures.past) in
    (said (branch_parts a.branch a.first a.second) w, e)
