-- `outcomes::internal::judged` meets its contract. Assumes nothing.
use mathlib.Core.Path.{ap₂, ◌∙◌}
use mathlib.Core.Bool.{cond}
use Prim.Native.Nat.{ℕ}
use lib.Dec.{eqb}
use Rattle.bids.specs.Columns.{bids_from}
use Rattle.book.specs.Viewed.{viewed, replaced}
use Rattle.errors.specs.Listed.{listed}
use Rattle.outcomes.proofs.internal.judged.Goals as goal

pub returns : goal.returns
returns c =
    let e = c in
    let f = e.args.f in
    let at = c.unwrap_or.ensures in
    let time = c.unwrap_or-2.ensures in (
      e.returned_errors-errors.ensures.1,
      (λ i. record { at = at i; time = time i; rates = f.places.rates; amounts = f.places.amounts }),
      λ b s state space.
          ap₂ (λ (k t : ℕ). (listed e.returned_errors-errors.result, cond (eqb e.returned_errors-errors.result.n 0) (replaced (viewed b) k t (bids_from f.places.rates f.places.amounts 0 10)) (viewed b))) at time
          ∙ e.returned_errors-errors.ensures.0 b space s,
    )
