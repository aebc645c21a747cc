-- The code's offer as document 01's, ranks of rates, totals at a rate, and the bound of condition 16. Assumes nothing.
use Rattle.std.specs.Prelude.{◌≡◌, Bool, List, ℕ, ◌+◌, eqb}
use Rattle.announcement.specs.declared.Side.{Side}
use Rattle.announcement.specs.declared.Side.TheVariants.{La, Lp}
use Rattle.rules.specs.Allotment as rules
use Rattle.offer.specs.declared.Offer.{Offer}
use Rattle.offer.specs.declared.around.Totals.{Totals}

abbrev pub viewed : Offer → rules.Offer
viewed o = record { side = o.side; limit = o.limit.0; offered = o.offered.0 }

-- k is the rank of a rate: a better rate has a lower one
unfoldable pub ranks : Side → ℕ → ℕ → Bool
ranks La r k = eqb k r
ranks Lp r k = eqb (k + r) 4294967295

-- 'B the total at better rates, E the total at its own rate'
pub record TotalsAt (o : rules.Offer) (bs : List rules.Bid) (rate : ℕ) (t : Totals) : Type 0 where
  pub better_is : t.better.0 ≡ rules.total_better o bs rate
  pub equal_is : t.equal.0 ≡ rules.total_equal o bs rate

-- '999,999,999,999,999,999 eurocents'
abbrev pub most_bids : ℕ
most_bids = 999999999999999999
