-- `terms::limit_too_long` meets its contract. The loop's invariant: what is tested and what is left are the whole. Assumes nothing.
use mathlib.Core.Path.{sym, ◌∙◌}
use native.Mathlib.Omega.{arith}
use lib.Dec.{ltb}
use Rattle.rules.specs.Opening.{limit_too_long}
use Rattle.rules.proofs.Any.{any_more, any_end}
use Rattle.terms.proofs.limit_too_long.Goals as goal

pub loop-limit-preserved : goal.loop-limit-preserved
loop-limit-preserved c =
    let l = c.loop-limit in
    any_more (ltb 999999999999999) l.found c.args.limits.now l.limit-index 0 (omega arith) ∙ l.invariant

pub returns : goal.returns
unfolding limit_too_long
returns c =
    let l = c.loop-limit in
    sym (any_end (ltb 999999999999999) l.found c.args.limits.now l.limit-index (omega arith)) ∙ l.invariant
