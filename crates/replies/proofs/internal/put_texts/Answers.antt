-- `replies::internal::put_texts` meets its contract. Assumes nothing.
use mathlib.Core.Path.{◌≡◌}
use Prim.Native.Nat.{◌-◌}
use native.Mathlib.Omega.{arith}
use lib.ListN.{length, take, drop, length-drop}
use lib.Seq.{take_all}
use Rattle.output.proofs.Output.{said, then}
use Rattle.replies.proofs.Texts.{texts_are}
use Rattle.replies.proofs.internal.put_texts.Goals as goal

pub returns : goal.returns
returns c =
    let codes = c.args.codes.now in
    let many = length-drop 1 codes in
    let others : take (length codes - 1) (drop 1 codes) ≡ drop 1 codes = take_all (length codes - 1) (drop 1 codes) (omega arith) in
    let rest = rw others at c.put_rest.ensures in
    (said (texts_are codes (omega arith)) (then (omega arith) c.put_text-rest.ensures.0 rest.0), omega (arith, rest.1))
