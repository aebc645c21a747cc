-- `envelope::application::is_6g1` meets its contract: the code's bytes are the layout in two parts. Assumes nothing.
use mathlib.Core.Path.{sym, ◌∙◌}
use Prim.Native.Nat.{◌-◌}
use native.Mathlib.Omega.{arith}
use lib.ListN.{length}
use Rattle.layout.specs.Fields.{layout_of}
use Rattle.layout.proofs.Fixed.{fixed}
use Rattle.envelope.proofs.Fields6G1.{short_6g1, both_parts, short_parts, no_last_part}
use Rattle.envelope.proofs.application.is_6g1.Goals as goal

pub returns-then-n-lt339 : goal.returns-then-n-lt339
returns-then-n-lt339 c = short_6g1 _ c.if-n-lt339.true

pub returns-then-n-eq339 : goal.returns-then-n-eq339
unfolding layout_of fixed
returns-then-n-eq339 c =
    let m = c.args.m.now in
    short_parts m (length m - 317) (omega arith) c.readable-then-n-eq339.result c.if-n-eq339.true (sym c.readable.ensures ∙ c.if-readable.true) c.readable-then-n-eq339.ensures

pub returns-else-n-eq339 : goal.returns-else-n-eq339
unfolding layout_of fixed
returns-else-n-eq339 c =
    let m = c.args.m.now in
    both_parts m (length m - 317) (omega arith) c.readable-then-readable.result (sym c.readable.ensures ∙ c.if-readable.true) c.readable-then-readable.ensures

pub returns-else-readable : goal.returns-else-readable
unfolding layout_of fixed
returns-else-readable c =
    let m = c.args.m.now in
    no_last_part m (length m - 317) (omega arith) (sym c.readable.ensures ∙ c.if-readable.false)
