-- `output::internal::put` meets its contract. The loop's invariant: space is as it was, with the first j bytes of text from at. Assumes nothing.
use mathlib.Core.Path.{◌≡◌, refl}
use native.Mathlib.Numerals.{add-one}
use native.Mathlib.Omega.{arith}
use lib.ListN.{length}
use lib.Seq.{paste-zero, paste-suc, take-length}
use Rattle.output.specs.Output.{overlay}
use Rattle.output.proofs.internal.put.Goals as goal

pub loop-j-init : goal.loop-j-init
loop-j-init c = paste-zero c.args.space.now c.args.at c.args.text.now

pub loop-j-preserved : goal.loop-j-preserved
loop-j-preserved c =
    let l = c.loop-j in
    let a = c.args in
    rw (l.invariant, add-one) (paste-suc a.space.now a.at a.text.now l.j 0 (omega arith) (omega arith))

pub returns : goal.returns
unfolding overlay
returns c =
    let e : c.loop-j.j ≡ length c.args.text.now = omega arith in
    record { bytes = rw (c.loop-j.invariant, e, take-length); past = refl }
