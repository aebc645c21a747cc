-- `bids::internal::part` meets its contract. Assumes nothing.
use native.Mathlib.Omega.{arith}
use Rattle.bids.proofs.SideBySide.{length_of_lem}
use Rattle.bids.proofs.internal.part.Goals as goal

pub part_of-requires-clause-to_bound : goal.part_of-requires-clause-to_bound
part_of-requires-clause-to_bound c = let s = c.args.bids in omega (arith, length_of_lem s.rates.now s.amounts.now s.paired)
