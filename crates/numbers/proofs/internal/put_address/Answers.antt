-- `numbers::internal::put_address` meets its contract. Assumes nothing.
use mathlib.Core.Path.{sym, ap}
use Rattle.output.proofs.Output.{said}
use Rattle.addresses.specs.declared.Address.{Address}
use Rattle.numbers.specs.Numbers.{address_numbers}
use Rattle.numbers.proofs.internal.put_address.Goals as goal

pub returns-in-Malformed : goal.returns-in-Malformed
unfolding address_numbers
returns-in-Malformed c =
    let a = c.args in
    let w = c.put_three.ensures in
    (said (sym (ap (λ (x : Address). address_numbers x a.text) c.in-Malformed.is)) w, w.past)

pub returns-in-Code : goal.returns-in-Code
unfolding address_numbers
returns-in-Code c =
    let a = c.args in
    let w = c.put_three-in-Code.ensures in
    (said (sym (ap (λ (x : Address). address_numbers x a.text) c.in-Code.is)) w, w.past)

pub returns-in-Branch : goal.returns-in-Branch
unfolding address_numbers
returns-in-Branch c =
    let a = c.args in
    let w = c.put_three-in-Branch.ensures in
    (said (sym (ap (λ (x : Address). address_numbers x a.text) c.in-Branch.is)) w, w.past)
