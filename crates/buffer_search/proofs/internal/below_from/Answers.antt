-- `buffer_search::internal::below_from` meets its contract. The loop's invariant: all codes before the index are below. Assumes nothing.
use mathlib.Core.Path.{sym, ◌∙◌}
use Prim.Native.Nat.{◌+◌}
use native.Mathlib.Omega.{arith}
use Rattle.buffer_search.specs.Search.{AllBelow}
use Rattle.buffer_search.proofs.Search.{passed, not_passed}
use Rattle.buffer_search.proofs.internal.below_from.Goals as goal

pub overflow_add-at : goal.overflow_add-at
overflow_add-at c =
    let further : AllBelow c.args.codes.now (c.loop-at.at + 1) c.args.code = let start = c in
    passed start.args.codes.now start.requires.0 start.args.code c.loop-at.at (c.loop-at.at + 1) (omega arith) (sym c.is_below.ensures ∙ c.loop-at-test.true) in
    omega (arith, further.inside)

pub loop-at-smaller : goal.loop-at-smaller
loop-at-smaller c =
    let further : AllBelow c.args.codes.now (c.loop-at.at + 1) c.args.code = let start = c in
    passed start.args.codes.now start.requires.0 start.args.code c.loop-at.at (c.loop-at.at + 1) (omega arith) (sym c.is_below.ensures ∙ c.loop-at-test.true) in
    omega (arith, further.inside)

pub loop-at-preserved : goal.loop-at-preserved
loop-at-preserved c =
    let further : AllBelow c.args.codes.now (c.loop-at.at + 1) c.args.code = let start = c in
    passed start.args.codes.now start.requires.0 start.args.code c.loop-at.at (c.loop-at.at + 1) (omega arith) (sym c.is_below.ensures ∙ c.loop-at-test.true) in
    further

pub returns : goal.returns
returns c =
    let l = c in
    let start = l in
    not_passed start.args.codes.now start.requires.0 start.args.code l.loop-at.at l.loop-at.invariant (sym c.is_below.ensures ∙ c.loop-at-test.false)
