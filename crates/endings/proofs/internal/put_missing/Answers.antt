-- `endings::internal::put_missing` meets its contract. Assumes nothing.
use mathlib.Core.Path.{refl, sym}
use native.Mathlib.Omega.{arith}
use borrow.Author.Tests.{eq-eqb, ne_eqb}
use Rattle.output.proofs.Output.{then, said}
use Rattle.endings.specs.Endings.{missing_text}
use Rattle.endings.proofs.internal.put_missing.Goals as goal

pub returns-then-n-eq1 : goal.returns-then-n-eq1
unfolding missing_text
returns-then-n-eq1 c =
    let one = c.put in
    (said (sym (rw (eq-eqb _ 1 c.if-n-eq1.true) refl)) one.ensures, omega (arith, one.ensures.past))

pub returns : goal.returns
unfolding missing_text
returns c =
    let number = c.put_decimal-end in
    let end = c.put-2 in
    (said (sym (rw (ne_eqb _ 1 c.if-n-eq1.false) refl)) (then (omega arith) number.ensures.0 end.ensures), omega (arith, number.ensures.1, end.ensures.past))
