-- `numbers::internal::put_codes` meets its contract. Assumes nothing.
use mathlib.Core.Path.{refl, sym, ap, ◌∙◌}
use Rattle.output.proofs.Output.{said}
use Rattle.numbers.specs.Numbers.{digit_numbers}
use Rattle.numbers.specs.Codes.{codes_numbers}
use Rattle.numbers.proofs.ByNumber.{sender_code, recipient_code}
use Rattle.numbers.proofs.Arrays.{and_then}
use Rattle.numbers.proofs.internal.put_codes.Goals as goal

pub returns : goal.returns
unfolding codes_numbers digit_numbers
returns c =
    let start = c in
    let m = start.args.m.now in
    let h = start.requires.0 in
    let sender = said (ap digit_numbers (c.sender_digits.ensures ∙ sym (sender_code m h 1 refl))) c.put_number-recipient.ensures.0 in
    let recipient = said (ap digit_numbers (c.recipient_digits.ensures ∙ sym (recipient_code m h 2 refl))) c.put_number.ensures.0 in
    let w = and_then sender recipient in
    (w, w.past)
