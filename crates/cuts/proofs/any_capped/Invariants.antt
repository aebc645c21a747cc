-- `cuts::any_capped` meets its contract. The loop's invariant: what is tested and what is left are the whole. Assumes nothing.
use mathlib.Core.Path.{◌≡◌}
use mathlib.Core.Bool.{◌||◌}
use lib.ListN.{drop}
use Rattle.rules.specs.Cuts.{is_capped}
use Rattle.rules.specs.Opening.{any}
use Rattle.offer.specs.Viewed.{viewed}
use Rattle.cuts.proofs.any_capped.Given as goal

abbrev pub invariant-loop-limit : goal.invariant-loop-limit
invariant-loop-limit l = (l.found || any (is_capped (viewed l.o)) (drop l.limit-index l.limits)) ≡ any (is_capped (viewed l.o)) l.limits
