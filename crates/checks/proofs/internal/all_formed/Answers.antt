-- `checks::internal::all_formed` meets its contract. The loop's invariant: what is tested and what is left are the whole. Assumes nothing.
use mathlib.Core.Path.{sym, ◌∙◌}
use native.Mathlib.Omega.{arith}
use Rattle.checks.proofs.Groups.{formed_more, formed_end}
use Rattle.checks.proofs.internal.all_formed.Goals as goal

pub loop-place_formed-preserved : goal.loop-place_formed-preserved
loop-place_formed-preserved c =
    let l = c.loop-place_formed in
    formed_more l.ok c.args.formed l.place_formed-index (omega arith) ∙ l.invariant

pub returns : goal.returns
returns c =
    let l = c.loop-place_formed in
    sym (formed_end l.ok c.args.formed l.place_formed-index (omega arith)) ∙ l.invariant
