-- `addresses::internal::put_after_code` meets its contract: the short form is written with its code. Assumes nothing.
use mathlib.Core.Path.{sym, ap, ◌∙◌}
use mathlib.Core.Bool.{false≢true}
use native.Mathlib.Omega.{arith}
use lib.ListN.{drop}
use Rattle.output.proofs.Output.{said, nothing}
use Rattle.addresses.specs.declared.Address.{Address}
use Rattle.addresses.specs.Addresses.{address_text, address_length, address_fits}
use Rattle.addresses.proofs.Writing.{after-code, after_branch_code}
use Rattle.addresses.proofs.internal.put_after_code.Goals as goal

pub put_branch-requires : goal.put_branch-requires
put_branch-requires c = omega (arith, ap address_length c.in-Branch.is, c.requires.1)

pub returns-in-Malformed : goal.returns-in-Malformed
returns-in-Malformed c = absurd (false≢true (sym (ap address_fits c.in-Malformed.is) ∙ c.requires.0))

pub returns-in-Code : goal.returns-in-Code
returns-in-Code c =
    let a = c.args in
    let e = c.in-Code.is in
    (said (sym (after-code _) ∙ sym (ap (λ (x : Address). drop 5 (address_text x)) e)) (nothing a.space.now a.at), omega (arith, ap address_length e))

pub returns-in-Branch : goal.returns-in-Branch
returns-in-Branch c =
    let e = c.in-Branch.is in
    let w = c.put_branch.ensures in
    (said (sym (after_branch_code _ _ _ _) ∙ sym (ap (λ (x : Address). drop 5 (address_text x)) e)) w.0, omega (arith, ap address_length e, w.1))
