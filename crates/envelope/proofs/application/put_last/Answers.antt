-- `envelope::application::put_last` meets its contract: five fields, chained. Assumes nothing.
use Prim.Native.Nat.{◌≤◌}
use native.Mathlib.Omega.{arith}
use lib.ListN.{length}
use Rattle.output.proofs.Output.{then}
use Rattle.envelope.specs.Writing.{last_fields}
use Rattle.envelope.proofs.Writing.{all_fit}
use Rattle.envelope.proofs.application.put_last.Goals as goal

pub put_short-check-requires : goal.put_short-check-requires
put_short-check-requires c =
    let start = c in
    (omega arith, omega arith, omega (arith, (all_fit start.args.a start.requires.0).time), omega (arith, start.requires.3))

pub put_short-tail-requires : goal.put_short-tail-requires
put_short-tail-requires c =
    let start = c in
    (omega arith, omega arith, omega (arith, (all_fit start.args.a start.requires.0).check), omega (arith, start.requires.3, c.put_short-check.ensures.1))

pub put_bids-contact-requires : goal.put_bids-contact-requires
put_bids-contact-requires c =
    let start = c in
    (omega (arith, start.requires.1, start.requires.3, c.put_short-check.ensures.1, c.put_short-tail.ensures.1, c.put_text_field-bids.ensures.1), (all_fit start.args.a start.requires.0).places)

pub returns : goal.returns
unfolding last_fields
returns c =
    let name = c in
    let bids = name in
    let identifier = bids in
    let check = identifier in
    let time = check in
    let start = time in
    let room : start.args.at ≤ length start.args.space.now = omega arith in
    then room (then room (then room (then room time.put_short-check.ensures.0 check.put_short-tail.ensures.0) identifier.put_text_field-bids.ensures.0) bids.put_bids-contact.ensures.0) name.put_text_field.ensures.0
