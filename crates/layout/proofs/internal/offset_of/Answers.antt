-- `layout::internal::offset_of` meets its contract. The loop's invariant: field k starts as far after at as the last of the fields left. Assumes nothing.
use mathlib.Core.Path.{◌≡◌, sym, ◌∙◌}
use Prim.Native.Nat.{◌+◌, ◌-◌, ◌<◌}
use native.Mathlib.Nat.{zero-add, add-zero, sub-zero}
use native.Mathlib.Omega.{arith}
use Rattle.layout.specs.Fields.{offset}
use Rattle.layout.proofs.Fields.{whole_at, whole_more, offset_more}
use Rattle.layout.proofs.internal.offset_of.Goals as goal

pub loop-init : goal.loop-init
loop-init c = (omega arith, rw sub-zero c.requires, rw sub-zero (sym (zero-add _)))

pub overflow_add-at : goal.overflow_add-at
overflow_add-at c = omega (arith, whole_at (c.args.k - c.loop.counter) c.args.m.now c.loop.at c.loop.invariant.1)

pub length_at-requires : goal.length_at-requires
length_at-requires c = omega (arith, whole_at (c.args.k - c.loop.counter) c.args.m.now c.loop.at c.loop.invariant.1)

pub overflow_add-at-in-loop : goal.overflow_add-at-in-loop
overflow_add-at-in-loop c = omega (arith, c.length_at.ensures, whole_at (c.args.k - c.loop.counter) c.args.m.now c.loop.at c.loop.invariant.1)

pub loop-preserved : goal.loop-preserved
loop-preserved c =
    let m = c.args.m.now in
    let l = c.loop in
    let left = c.args.k - l.counter in
    let some : 0 < left = omega arith in
    let n = c.length_at in
    let e : c.args.k - (l.counter + 1) ≡ left - 1 = omega arith in (
      omega (arith, n.ensures, whole_at left m l.at l.invariant.1),
      rw e (whole_more left m l.at n.result some n.ensures.0 l.invariant.1),
      l.invariant.2 ∙ rw e (offset_more left m l.at n.result some n.ensures.0),
    )

pub returns : goal.returns
unfolding offset
returns c =
    let l = c.loop in
    let z : c.args.k - l.counter ≡ 0 = omega arith in
    sym (rw (z, add-zero) at l.invariant.2)
