-- The rows hold: antt computes every one. Assumes nothing.
use Rattle.texts.specs.Texts.{same_text}
use Rattle.rules.specs.Allotment.{filled, better_rate, is_in, keep}
use Rattle.rules.specs.Cuts.{cut_to, cut_above}
use Rattle.rules.specs.Marked.{all_hold}
use Rattle.credit_limits.specs.Walk.{placed_from, is_walked, insert, best_first, cut_next, cut_along, walked, left_at, after_walk, walked_bids}
use Rattle.credit_limits.specs.WalkRows.{walked_amounts, walked_rates, walk_rows, WalkRowsHold}

pub walk_rows_hold : WalkRowsHold
unfolding same_text filled better_rate is_in keep cut_to cut_above all_hold placed_from is_walked insert best_first cut_next cut_along walked left_at after_walk walked_bids walked_amounts walked_rates walk_rows
walk_rows_hold = tt
