-- `outcomes::internal::allot_bids` meets its contract. Assumes nothing.
use borrow.Author.Rules.{rules}
use Rattle.std.specs.Prelude.{Ok, Err}
use mathlib.Core.Path.{◌≡◌, refl}
use mathlib.Core.Bool.{true, false}
use Rattle.bids.specs.Columns.{bids_of}
use Rattle.envelope.specs.Refusals.{first_holding}
use Rattle.refusals.specs.declared.Refusal.TheVariants.{BidsExceed}
use Rattle.outcomes.specs.Outcomes.{viewed_of}
use Rattle.outcomes.proofs.Allotting.{allots_not, allots-bids}
use Rattle.outcomes.proofs.internal.allot_bids.Goals as goal

pub returns-in_err-first : goal.returns-in_err-first
returns-in_err-first c =
    λ state book all capped. let a = c.args in
    let f = c.in_err-first.field-0.0 in
    let told : c.from_residual.result ≡ Err f = search rules in
    let asked : a.first ≡ Err f = c.in_err-first.was in
    rw (told, asked) (allots_not (viewed_of state a.terms book) a.awards.now f)

pub returns-in-Ok : goal.returns-in-Ok
unfolding first_holding
returns-in-Ok c =
    λ state book all capped. let a = c.args in
    let asked : a.first ≡ Ok c.in_ok-first.field-0 = c.in_ok-first.was in
    rw asked
    (allots-bids (viewed_of state a.terms book) a.awards.now (Ok c.in-Ok.marginal) a.limits.now (bids_of a.rates.now a.amounts.now) false c.allot.new.awards all capped refl c.in-Ok.ensures)

pub returns-in-Err : goal.returns-in-Err
unfolding first_holding
returns-in-Err c =
    λ state book all capped. let a = c.args in
    let asked : a.first ≡ Ok c.in_ok-first.field-0 = c.in_ok-first.was in
    rw asked
    (allots-bids (viewed_of state a.terms book) a.awards.now (Err BidsExceed) a.limits.now (bids_of a.rates.now a.amounts.now) true c.allot.new.awards all capped refl c.in-Err.ensures)
