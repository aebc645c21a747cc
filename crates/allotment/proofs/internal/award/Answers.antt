-- `allotment::internal::award` meets its contract. Assumes nothing.
use mathlib.Core.Path.{sym, subst}
use Prim.Native.Nat.{ℕ}
use Rattle.bids.specs.Columns.{bids_in}
use Rattle.marginal.specs.Ranks.{rate_in}
use Rattle.offer.specs.Viewed.{viewed}
use Rattle.awards.specs.LastRate.{LastRate}
use Rattle.awards.proofs.LastRate.{last_is}
use Rattle.allotment.proofs.internal.award.Goals as goal

pub awards_at-requires : goal.awards_at-requires
awards_at-requires c =
    let a = c.args in
    let o = viewed a.o in
    let bs = bids_in a.bids in
    let p = c.requires in
    record {
      awards_len = p.awards_len;
      bids_bound = p.bids_bound;
      last_rate = subst (λ (r : ℕ). LastRate o bs r) (sym c.last_rate-last.ensures) (last_is o bs (rate_in a.marginal) (sym p.marginal_value));
    }
