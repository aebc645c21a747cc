-- `endings::left_at` meets its contract. The loop's invariant: from the index on as much is left as from the start. Assumes nothing.
use mathlib.Core.Path.{refl, sym, ◌∙◌}
use native.Mathlib.Omega.{arith}
use lib.ListN.{length, drop}
use Rattle.layout.specs.Fields.{length_at}
use Rattle.endings.proofs.Left.{left_next_at, left_none}
use Rattle.endings.proofs.left_at.Goals as goal

pub loop-end-preserved : goal.loop-end-preserved
loop-end-preserved c =
    let l = c.loop-end in
    let end = c.in-Some.ensures.end in
    let next = left_next_at c.args.input.now l.at (length_at (drop l.at c.args.input.now)) refl (sym c.in-Some.ensures.whether) in
    (omega (arith, end.1), rw (end.0) (next ∙ l.invariant.1))

pub returns : goal.returns
returns c =
    let l = c.loop-end in
    let s = drop l.at c.args.input.now in
    (sym (left_none s (length s) (sym c.in_default.ensures.whether)) ∙ l.invariant.1, l.invariant.0)
