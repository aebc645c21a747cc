-- `terms::codes_rise` meets its contract. The loop's invariant: what is tested and what is left are the whole. Assumes nothing.
use mathlib.Core.Path.{◌≡◌}
use mathlib.Core.Bool.{◌&&◌}
use lib.ListN.{drop}
use Rattle.terms.specs.Viewed.{rises_from}
use Rattle.terms.proofs.codes_rise.Given as goal

abbrev pub invariant-loop-code : goal.invariant-loop-code
invariant-loop-code l = (l.ok && rises_from l.least (drop l.code-index l.codes)) ≡ rises_from 0 l.codes
