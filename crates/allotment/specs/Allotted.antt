-- What the code's allotment gives, as document 01's. Assumes nothing.
use Rattle.std.specs.Prelude.{◌≡◌, Bool, true, false, cond, List, ℕ, ltb, Result, Ok, Err, is_err}
use Rattle.std.specs.Prelude as prelude
use Rattle.std.proofs.Math.Option.{Option, none}
use Rattle.places.specs.declared.Rate.{Rate}
use Rattle.rules.specs.Allotment.{Bid, Offer, total, awards, marginal_rate}
use Rattle.rules.specs.Cuts.{cut_book}
use Rattle.offer.specs.Viewed.{most_bids}
use Rattle.marginal.specs.Ranks.{rate_in}
use Rattle.allotment.specs.declared.BidsExceed.{BidsExceed}

-- not refused, so that there is no `Err`: the marginal rate and the awards are those of the bids as they are taken
pub record Taken (o : Offer) (bs : List Bid) (r : prelude.Option Rate) (after : List ℕ) : Type 0 where
  pub marginal_is : rate_in r ≡ marginal_rate o bs
  pub awards_are : after ≡ awards o bs

-- whether condition 16 refuses, by the bids in the book, the marginal rate and the awards of the bids cut to the limits; if it does, there is no rate
-- and the awards' space is as it was before
unfoldable pub allotted_to : Offer → List ℕ → List Bid → List ℕ → Bool × Option ℕ × List ℕ
allotted_to o limits bs before =
    cond (ltb most_bids (total bs)) (true, none, before) (false, marginal_rate o (cut_book o limits bs), awards o (cut_book o limits bs))

-- the marginal rate that is answered; there is none where condition 16 refuses
abbrev pub rate_answered : Result (prelude.Option Rate) BidsExceed → Option ℕ
rate_answered (Ok r) = rate_in r
rate_answered (Err e) = none

-- the awards' space is `before` an allotment and `after` it
abbrev pub AllotsTo : Offer → List ℕ → List Bid → List ℕ → Result (prelude.Option Rate) BidsExceed → List ℕ → Type 0
AllotsTo o limits bs before r after = ◌≡◌ {A = Bool × Option ℕ × List ℕ} (is_err r, rate_answered r, after) (allotted_to o limits bs before)
