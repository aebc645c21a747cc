-- `layout::internal::contents` meets its contract. Assumes nothing.
use Prim.Native.Nat.{◌+◌, ◌≤◌}
use native.Mathlib.Omega.{arith}
use lib.ListN.{length, drop}
use Rattle.layout.specs.Fields.{length_at}
use Rattle.layout.proofs.Fields.{offset-within, content_at}
use Rattle.layout.proofs.internal.contents.Goals.{After-offset_of-at}
use Rattle.layout.proofs.internal.contents.Goals as goal

-- the field is within m
within : (c : After-offset_of-at) → c.offset_of-at.result + 3 + length_at (drop c.offset_of-at.result c.args.m.now) ≤ length c.args.m.now
within c =
    let a = c.args in
    offset-within a.k a.m.now c.offset_of-at.result c.requires c.offset_of-at.ensures

pub length_at-n-requires : goal.length_at-n-requires
length_at-n-requires c = omega (arith, within c)

pub overflow_add-result : goal.overflow_add-result
overflow_add-result c = omega (arith, within (goal.at.overflow_add-result c).After-offset_of-at)

pub overflow_add-result-2 : goal.overflow_add-result-2
overflow_add-result-2 c = omega (arith, within (goal.at.overflow_add-result-2 c).After-offset_of-at)

pub overflow_add-result-3 : goal.overflow_add-result-3
overflow_add-result-3 c = omega (arith, within (goal.at.overflow_add-result-3 c).After-offset_of-at)

pub slice_bounds-result-end : goal.slice_bounds-result-end
slice_bounds-result-end c = omega (arith, within (goal.at.slice_bounds-result-end c).After-offset_of-at)

pub returns : goal.returns
returns c =
    let a = c.args in
    let o = c.offset_of-at in
    let n = c.length_at-n in
    content_at a.k a.m.now o.result n.result o.ensures n.ensures.0
