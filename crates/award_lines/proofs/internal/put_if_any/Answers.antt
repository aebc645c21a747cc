-- `award_lines::internal::put_if_any` meets its contract. Assumes nothing.
use native.Mathlib.Omega.{arith}
use borrow.Author.Tests.{lt-ltb, le-ltb}
use Rattle.output.proofs.Output.{nothing}
use Rattle.award_lines.proofs.internal.put_if_any.Goals as goal

pub returns-then-award-gt0 : goal.returns-then-award-gt0
returns-then-award-gt0 c =
    let a = c in
    let w = a.put_award.ensures in
    rw (lt-ltb _ _ a.if-award-gt0.true) (w.0, omega arith)

pub returns : goal.returns
returns c =
    let a = c.args in
    rw (le-ltb _ _ c.if-award-gt0.false) (nothing a.space.now a.at, omega arith)
