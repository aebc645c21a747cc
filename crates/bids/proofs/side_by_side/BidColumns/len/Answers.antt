-- `bids::BidColumns::len` meets its contract. Assumes nothing.
use mathlib.Core.Path.{sym}
use Rattle.bids.proofs.SideBySide.{length_of_lem}
use Rattle.bids.proofs.side_by_side.BidColumns.len.Goals as goal

pub returns : goal.returns
returns c = let s = c.args.self in sym (length_of_lem s.rates.now s.amounts.now s.paired)
