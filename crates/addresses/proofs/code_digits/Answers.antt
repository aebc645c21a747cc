-- `addresses::code_digits` meets its contract. Assumes nothing.
use mathlib.Core.Path.{sym, ap}
use Rattle.addresses.specs.Addresses.{code_digits}
use Rattle.addresses.proofs.code_digits.Goals as goal

pub returns-in-Code : goal.returns-in-Code
returns-in-Code c = sym (ap code_digits c.in-Code.is)

pub returns-in-Branch : goal.returns-in-Branch
returns-in-Branch c = sym (ap code_digits c.in-Branch.is)
