-- `envelope::application::put_first` meets its contract: five fields, chained. Assumes nothing.
use Prim.Native.Nat.{zero-le}
use native.Mathlib.Omega.{arith}
use Rattle.output.proofs.Output.{then}
use Rattle.envelope.specs.Writing.{first_fields}
use Rattle.envelope.proofs.Writing.{all_fit}
use Rattle.envelope.proofs.application.put_first.Goals as goal

pub put_address-recipient-requires : goal.put_address-recipient-requires
put_address-recipient-requires c =
    let start = c in
    ((all_fit start.args.a start.requires.0).sender, omega (arith, start.requires.1, start.requires.2, c.put_field-sender.ensures.1))

pub put_address-cro-requires : goal.put_address-cro-requires
put_address-cro-requires c =
    let start = c in
    ((all_fit start.args.a start.requires.0).recipient, omega (arith, start.requires.1, start.requires.2, c.put_field-sender.ensures.1, c.put_address-recipient.ensures.1))

pub put_short-requires : goal.put_short-requires
put_short-requires c =
    let start = c in
    (omega arith, omega arith, (all_fit start.args.a start.requires.0).date, omega (arith, start.requires.1, start.requires.2, c.put_field-sender.ensures.1, c.put_address-recipient.ensures.1, c.put_address-cro.ensures.1, c.put_number-date.ensures.1))

pub returns : goal.returns
unfolding first_fields
returns c =
    let date = c in
    let cro = date in
    let recipient = cro in
    let sender = recipient in
    let kind = sender in (
      then zero-le (then zero-le (then zero-le (then zero-le kind.put_field-sender.ensures.0 sender.put_address-recipient.ensures.0) recipient.put_address-cro.ensures.0) cro.put_number-date.ensures.0) date.put_short.ensures.0,
      omega (arith, kind.put_field-sender.ensures.1, sender.put_address-recipient.ensures.1, recipient.put_address-cro.ensures.1, cro.put_number-date.ensures.1, date.put_short.ensures.1),
    )
