-- `book::up_to_64` meets its contract. Assumes nothing.
use Rattle.std.proofs.Common.{arith}
use Rattle.std.proofs.lemmas.Bool.Decides.{nat_tests}
use Rattle.book.specs.Viewed.{up_to64}
use Rattle.book.proofs.up_to_64.Goals as goal

pub returns : goal.returns
unfolding up_to64
returns c = grind (arith, nat_tests)
