-- `marginal::internal::by_keys` meets its contract. Assumes nothing.
use Rattle.marginal.proofs.internal.by_keys.Goals as goal

pub walk-requires : goal.walk-requires
walk-requires c = record { bids_bound = c.requires.bids_bound; ranked = c.keys_in-n.ensures.ranked }
