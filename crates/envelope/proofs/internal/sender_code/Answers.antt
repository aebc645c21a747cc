-- `envelope::internal::sender_code` meets its contract. Assumes nothing.
use native.Mathlib.Omega.{arith}
use lib.ListN.{drop, length-drop}
use lib.Seq.{length-take-le}
use Rattle.envelope.proofs.Fields6G1.{at_least_339, code-bytes}
use Rattle.envelope.proofs.internal.sender_code.Goals as goal

pub slice_bounds-result-end : goal.slice_bounds-result-end
slice_bounds-result-end c = omega (arith, at_least_339 c.args.m.now c.requires)

pub returns : goal.returns
returns c =
    let m = c.args.m.now in
    (code-bytes m c.requires, length-take-le 5 (drop 9 m) (omega (arith, at_least_339 m c.requires, length-drop 9 m)))
