-- `digits::all_digits` meets its contract. The loop's invariant: what is read and what is left are the whole. Assumes nothing.
use mathlib.Core.Path.{refl, sym, ◌∙◌}
use native.Mathlib.Omega.{arith}
use Rattle.digits.proofs.Reading.{test_more, test_end}
use Rattle.digits.proofs.all_digits.Goals as goal

pub loop-b-preserved : goal.loop-b-preserved
loop-b-preserved c =
    let l = c.loop-b in
    rw c.is_ascii_digit-ok.ensures.value (test_more l.ok c.args.s.now l.b-index (omega arith) ∙ l.invariant)

pub returns : goal.returns
returns c =
    let s = c.args.s.now in
    let l = c.loop-b in
    sym (test_end l.ok s l.b-index (omega arith)) ∙ l.invariant
