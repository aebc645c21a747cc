-- `numbers::internal::put_addresses` meets its contract. Assumes nothing.
use mathlib.Core.Path.{sym, ap, ◌∙◌}
use Prim.Native.Nat.{◌+◌, ◌≤◌}
use native.Mathlib.Omega.{arith}
use lib.ListN.{length}
use Rattle.output.proofs.Output.{then, said}
use Rattle.addresses.specs.declared.Address.{Address}
use Rattle.envelope.specs.declared.application.Field.TheVariants.{Sender, Recipient}
use Rattle.numbers.specs.Numbers.{address_numbers, addresses_numbers}
use Rattle.numbers.proofs.Parts.{start-within, sender_numbers, recipient_numbers, no_branches}
use Rattle.numbers.proofs.internal.put_addresses.Goals as goal

pub returns-then-both_short : goal.returns-then-both_short
returns-then-both_short c =
    let start = c in
    let room : start.args.at ≤ length start.args.numbers.now = omega (arith, start.requires.1) in
    said (no_branches start.args.m.now start.requires.0 (sym c.both_short.ensures ∙ c.if-both_short.true)) (then room c.put_three-recipient.ensures c.put_three.ensures)

pub overflow_add-from : goal.overflow_add-from
overflow_add-from c = omega (arith, c.text_start.ensures, start-within c.args.m.now c.requires.0 Sender c.start_of.result c.start_of.ensures)

pub overflow_add-to : goal.overflow_add-to
overflow_add-to c = omega (arith, c.text_start-2.ensures, start-within c.args.m.now c.requires.0 Recipient c.start_of-2.result c.start_of-2.ensures)

pub returns : goal.returns
unfolding addresses_numbers
returns c =
    let start = c in
    let m = start.args.m.now in
    let h = start.requires.0 in
    let room : start.args.at ≤ length start.args.numbers.now = omega (arith, start.requires.1) in
    let from = c.start_of in
    let from_text = c.text_start in
    let to = c.start_of-2 in
    let to_text = c.text_start-2 in
    let sender = said (ap (λ (a : Address). address_numbers a (from.result + from_text.result)) c.sender_of.ensures ∙ sender_numbers m h from.result from_text.result from.ensures from_text.ensures) c.put_address-recipient.ensures.0 in
    let recipient = said (ap (λ (a : Address). address_numbers a (to.result + to_text.result)) c.recipient_of.ensures ∙ recipient_numbers m h to.result to_text.result to.ensures to_text.ensures) c.put_address.ensures.0 in
    then room sender recipient
