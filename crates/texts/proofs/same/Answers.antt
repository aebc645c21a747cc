-- `texts::same` meets its contract. The loop's invariant: what is compared and what is left are the whole. Assumes nothing.
use mathlib.Core.Path.{refl, sym, ◌∙◌}
use native.Mathlib.Omega.{arith}
use Rattle.texts.proofs.Texts.{other_length, same_more, same_end}
use Rattle.texts.proofs.same.Goals as goal

pub returns-then-a-b : goal.returns-then-a-b
returns-then-a-b c = other_length c.args.a.now c.args.b.now c.if-a-b.true

pub loop-i-init : goal.loop-i-init
loop-i-init c = refl

pub loop-i-preserved : goal.loop-i-preserved
loop-i-preserved c =
    let l = c.loop-i in
    let a = c.args in
    same_more l.ok a.a.now a.b.now l.i (omega arith) (omega arith) ∙ l.invariant

pub returns : goal.returns
returns c =
    let l = c.loop-i in
    let a = c.args in
    sym (same_end l.ok a.a.now a.b.now l.i (omega arith) (omega arith)) ∙ l.invariant
