-- `replies::internal::put_rest` meets its contract. The loop's invariant: the errors so far are written. Assumes nothing.
use mathlib.Core.Path.{◌≡◌, ap}
use native.Mathlib.Omega.{arith}
use lib.ListN.{length}
use lib.Seq.{take_all}
use Rattle.output.proofs.Output.{then, said, nothing}
use Rattle.replies.specs.Texts.{slashed}
use Rattle.replies.proofs.Texts.{slashed_more}
use Rattle.replies.proofs.internal.put_rest.Goals as goal

pub loop-code-init : goal.loop-code-init
unfolding slashed
loop-code-init c = (omega arith, nothing c.args.space.now c.args.at)

pub loop-code-preserved : goal.loop-code-preserved
loop-code-preserved c =
    let l = c.loop-code in
    (omega arith, said (slashed_more c.args.codes.now l.code-index (omega arith)) (then (omega arith) (then (omega arith) l.invariant.1 c.put_byte-start.ensures) c.put_text-end.ensures.0))

pub returns : goal.returns
returns c =
    let l = c.loop-code in
    let codes = c.args.codes.now in
    let e : l.code-index ≡ length codes = omega arith in
    (said (ap slashed (take_all l.code-index codes (omega arith))) l.invariant.1, omega arith)
