-- `allotment::internal::last_rate` meets its contract. Assumes nothing.
use mathlib.Core.Path.{◌≡◌, refl, ap, ◌∙◌}
use Rattle.std.specs.Option.{unwrap_or}
use Rattle.std.specs.Prelude.{Option, Some, None}
use Rattle.places.specs.declared.Rate.{Rate}
use Rattle.rules.specs.Allotment.{Offer}
use Rattle.awards.specs.LastRate.{last_of}
use Rattle.marginal.specs.Ranks.{rate_in}
use Rattle.offer.specs.Viewed.{viewed}
use Rattle.allotment.proofs.internal.last_rate.Goals as goal

last_told : (o : Offer) (limit : Rate) (m : Option Rate) → limit.0 ≡ o.limit → (unwrap_or m limit).0 ≡ last_of o (rate_in m)
unfolding last_of
last_told o limit (Some r) e = refl
last_told o limit None e = e

pub returns : goal.returns
returns c = ap (λ (r : Rate). r.0) c.unwrap_or.ensures ∙ last_told (viewed c.args.o) c.args.o.limit c.args.m refl
