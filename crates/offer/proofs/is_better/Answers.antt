-- `offer::is_better` meets its contract. Assumes nothing.
use Rattle.offer.proofs.Ranks.{ranks_compare}
use Rattle.offer.proofs.is_better.Goals as goal

pub returns : goal.returns
returns c =
    let a = c.args in
    ranks_compare a.side a.rate.0 a.other.0 c.rank.result c.rank-2.result c.rank.ensures c.rank-2.ensures
