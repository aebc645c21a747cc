-- `dropping::internal::given_award` meets its contract: below the minimum, or not. Assumes nothing.
use mathlib.Core.Path.{sym}
use native.Mathlib.Omega.{arith}
use Rattle.smallest_award.proofs.Given.{given_below, given-whole}
use Rattle.dropping.proofs.internal.given_award.Goals as goal

pub returns-then-award-minimum : goal.returns-then-award-minimum
returns-then-award-minimum c = (sym (given_below _ _ c.if-award-minimum.true), omega arith)

pub returns-else-award-minimum : goal.returns-else-award-minimum
returns-else-award-minimum c = (sym (given-whole _ _ c.if-award-minimum.false), omega arith)
