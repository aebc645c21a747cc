-- `awards::internal::serve` meets its contract. Assumes nothing.
use mathlib.Core.Path.{sym, ◌∙◌}
use Rattle.awards.specs.LastRate.{served}
use Rattle.awards.proofs.internal.serve.Goals as goal

pub returns-then-is_better : goal.returns-then-is_better
unfolding served
returns-then-is_better c =
    sym
    (rw (
      sym c.is_in.ensures ∙ c.if-is_in.true,
      sym c.is_better.ensures ∙ c.if-is_better.true,
    ))

pub returns-then-is_better-2 : goal.returns-then-is_better-2
unfolding served
returns-then-is_better-2 c =
    sym
    (rw (
      sym c.is_in.ensures ∙ c.if-is_in.true,
      sym c.is_better.ensures ∙ c.if-is_better.false,
      sym c.is_better-then-is_in.ensures ∙ c.if-is_better-2.true,
    ))

pub returns-then-is_in : goal.returns-then-is_in
unfolding served
returns-then-is_in c =
    sym
    (rw (
      sym c.is_in.ensures ∙ c.if-is_in.true,
      sym c.is_better.ensures ∙ c.if-is_better.false,
      sym c.is_better-then-is_in.ensures ∙ c.if-is_better-2.false,
    )
    (sym c.shared_out.ensures))

pub returns : goal.returns
unfolding served
returns c = sym (rw (sym c.is_in.ensures ∙ c.if-is_in.false))
