-- `texts::same` meets its contract. The loop's invariant: what is compared and what is left are the whole. Assumes nothing.
use mathlib.Core.Path.{◌≡◌}
use mathlib.Core.Bool.{◌&&◌}
use lib.ListN.{drop}
use Rattle.texts.specs.Texts.{same_text}
use Rattle.texts.proofs.same.Given as goal

abbrev pub invariant-loop-i : goal.invariant-loop-i
invariant-loop-i l = ((l.ok && same_text (drop l.i l.a) (drop l.i l.b)) ≡ same_text l.a l.b)
