-- `buffer_search::internal::below` meets its contract. The loop's invariant: all codes before the index are below. Assumes nothing.
use mathlib.Core.Path.{sym, ◌∙◌}
use Prim.Native.Nat.{◌+◌}
use native.Mathlib.Omega.{arith}
use Rattle.buffer_search.specs.Search.{AllBelow}
use Rattle.buffer_search.proofs.Search.{none_passed, passed}
use Rattle.buffer_search.proofs.internal.below.Goals as goal

pub loop-at-init : goal.loop-at-init
loop-at-init c = none_passed c.args.codes.now c.args.code

pub overflow_add-at : goal.overflow_add-at
overflow_add-at c = omega (arith, c.loop-at.invariant.inside)

pub overflow_add-at-in-loop-at : goal.overflow_add-at-in-loop-at
overflow_add-at-in-loop-at c =
    let further : AllBelow c.args.codes.now (c.loop-at.at + 8) c.args.code = let start = c in
    passed start.args.codes.now start.requires start.args.code (c.loop-at.at + 7) (c.loop-at.at + 8) (omega arith) (sym c.is_below.ensures ∙ c.loop-at-test.true) in
    omega (arith, further.inside)

pub loop-at-smaller : goal.loop-at-smaller
loop-at-smaller c =
    let further : AllBelow c.args.codes.now (c.loop-at.at + 8) c.args.code = let start = c in
    passed start.args.codes.now start.requires start.args.code (c.loop-at.at + 7) (c.loop-at.at + 8) (omega arith) (sym c.is_below.ensures ∙ c.loop-at-test.true) in
    omega (arith, further.inside)

pub loop-at-preserved : goal.loop-at-preserved
loop-at-preserved c =
    let further : AllBelow c.args.codes.now (c.loop-at.at + 8) c.args.code = let start = c in
    passed start.args.codes.now start.requires start.args.code (c.loop-at.at + 7) (c.loop-at.at + 8) (omega arith) (sym c.is_below.ensures ∙ c.loop-at-test.true) in
    further
