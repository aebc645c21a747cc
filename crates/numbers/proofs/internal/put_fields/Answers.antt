-- `numbers::internal::put_fields` meets its contract. Assumes nothing.
use mathlib.Core.Path.{sym, ap, ◌∙◌}
use Prim.Native.Nat.{◌≤◌}
use native.Mathlib.Omega.{arith}
use lib.ListN.{length}
use Rattle.output.proofs.Output.{then, said}
use Rattle.numbers.specs.Numbers.{digit_numbers}
use Rattle.numbers.specs.Codes.{last_numbers}
use Rattle.numbers.proofs.ByNumber.{digits_there}
use Rattle.numbers.proofs.internal.put_fields.Goals as goal

pub returns : goal.returns
unfolding last_numbers
returns c =
    let start = c in
    let m = start.args.m.now in
    let h = start.requires.0 in
    let room : start.args.at ≤ length start.args.numbers.now = omega (arith, start.requires.1) in
    let cro = said (ap digit_numbers (c.cro_of.ensures ∙ sym (digits_there 3 m h (omega arith) (omega arith)))) c.put_number-date.ensures.0 in
    let date = said (ap digit_numbers (c.date_of.ensures ∙ sym (digits_there 4 m h (omega arith) (omega arith)))) c.put_number-time.ensures.0 in
    let time = said (ap digit_numbers (c.time_of.ensures ∙ sym (digits_there 5 m h (omega arith) (omega arith)))) c.put_number-check.ensures.0 in
    let check = said (ap digit_numbers (c.check_of.ensures ∙ sym (digits_there 6 m h (omega arith) (omega arith)))) c.put_number.ensures.0 in
    (then room (then room (then room cro date) time) check, omega (arith, c.put_number-date.ensures.1, c.put_number-time.ensures.1, c.put_number-check.ensures.1, c.put_number.ensures.1))
