-- `terms::limit_too_long` meets its contract. The loop's invariant: what is tested and what is left are the whole. Assumes nothing.
use mathlib.Core.Path.{◌≡◌}
use mathlib.Core.Bool.{◌||◌}
use lib.Dec.{ltb}
use lib.ListN.{drop}
use Rattle.rules.specs.Opening.{any}
use Rattle.terms.proofs.limit_too_long.Given as goal

abbrev pub invariant-loop-limit : goal.invariant-loop-limit
invariant-loop-limit l = (l.found || any (ltb 999999999999999) (drop l.limit-index l.limits)) ≡ any (ltb 999999999999999) l.limits
