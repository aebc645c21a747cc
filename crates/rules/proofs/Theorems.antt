-- The theorems of specs/Theorems, from the files of their subjects. Assumes nothing.
use Rattle.rules.specs.Theorems.{AwardsAddUp, NoAwardAboveBid, WalkGivesMarginalRate, ShareRoundedDown, RoundByRound, StartsFromNothing}
use Rattle.rules.proofs.Division.{first_round, next_round_lem, share_is}
use Rattle.rules.proofs.Sum.{awards-sum}
use Rattle.rules.proofs.Walk.{walk-marginal}
use Rattle.rules.proofs.Bound.{award_bounded}

pub awards_add_up : AwardsAddUp
awards_add_up = awards-sum

pub no_award_above_bid : NoAwardAboveBid
no_award_above_bid = award_bounded

pub walk_gives_marginal_rate : WalkGivesMarginalRate
walk_gives_marginal_rate = walk-marginal

pub share_rounded_down : ShareRoundedDown
share_rounded_down = share_is

pub round_by_round : RoundByRound
round_by_round = next_round_lem

pub starts_from_nothing : StartsFromNothing
starts_from_nothing = first_round
