-- `addresses::address_fits` meets its contract. Assumes nothing.
use mathlib.Core.Path.{sym, ap}
use Rattle.addresses.specs.Addresses.{address_fits}
use Rattle.addresses.proofs.address_fits.Goals as goal

pub returns-in-Code : goal.returns-in-Code
returns-in-Code c = sym (ap address_fits c.in-Code.is)

pub returns-in-Branch : goal.returns-in-Branch
returns-in-Branch c = sym (ap address_fits c.in-Branch.is)
