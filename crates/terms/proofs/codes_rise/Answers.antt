-- `terms::codes_rise` meets its contract. The loop's invariant: what is tested and what is left are the whole. Assumes nothing.
use mathlib.Core.Path.{◌≡◌, sym, ◌∙◌}
use native.Mathlib.Omega.{arith}
use lib.ListN.{get_or}
use Rattle.terms.proofs.Codes.{rise_more, rise_end}
use Rattle.terms.proofs.codes_rise.Goals as goal

pub loop-code-preserved : goal.loop-code-preserved
loop-code-preserved c =
    let l = c.loop-code in
    let e : c.from-c.result ≡ get_or c.args.codes.now l.code-index 0 = c.from-c.ensures in
    rw e (rise_more l.ok l.least c.args.codes.now l.code-index (omega arith) ∙ l.invariant)

pub returns : goal.returns
returns c =
    let l = c.loop-code in
    sym (rise_end l.ok l.least c.args.codes.now l.code-index (omega arith)) ∙ l.invariant
