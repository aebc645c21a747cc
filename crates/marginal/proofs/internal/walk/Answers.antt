-- `marginal::internal::walk` meets its contract. Assumes nothing.
use Rattle.bids.specs.Columns.{bids_in}
use Rattle.offer.specs.Viewed.{viewed}
use Rattle.marginal.proofs.Ranks.{ranked_sorted}
use Rattle.marginal.proofs.internal.walk.Goals as goal

pub first_reaching-requires : goal.first_reaching-requires
first_reaching-requires c =
    let a = c.args in
    let sorted = c.sort.ensures in
    record { bids_bound = c.requires.bids_bound; ranked = ranked_sorted (viewed a.o) (bids_in a.bids) a.keys.now _ c.requires.ranked sorted.same; rising = sorted.rising }
