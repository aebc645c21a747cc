-- The rows hold: antt computes every one. Assumes nothing.
use Rattle.texts.specs.Texts.{same_text}
use Rattle.rules.specs.Allotment.{filled, better_rate, is_in, is_better, is_equal, keep, total, total_better, total_equal}
use Rattle.rules.specs.Allotment.{binary_length_within, binary_length, first_digits, division_at, division, share, shares, cents_left, cent}
use Rattle.rules.specs.Allotment.{award, awards_from, awards}
use Rattle.rules.specs.Marked.{shared, all_hold}
use Rattle.steadiness.specs.SteadinessRows.{offering, both_awards, steadiness_rows, SteadinessRowsHold}

pub steadiness_rows_hold : SteadinessRowsHold
unfolding same_text filled better_rate is_in is_better is_equal keep total total_better total_equal binary_length_within binary_length first_digits
    division_at division share shares cents_left cent award awards_from awards shared all_hold offering both_awards steadiness_rows
steadiness_rows_hold = tt
