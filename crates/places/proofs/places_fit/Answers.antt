-- `places::places_fit` meets its contract. The loop's invariant: what is tested and what is left are the whole. Assumes nothing.
use mathlib.Core.Path.{◌≡◌, refl, sym, ◌∙◌}
use borrow.Author.Rules.{rules}
use native.Mathlib.Omega.{arith}
use lib.ListN.{length}
use Rattle.places.proofs.Writing.{fit_more, fit_end}
use Rattle.places.proofs.places_fit.Goals as goal

pub loop-k-init : goal.loop-k-init
loop-k-init c = refl

pub loop-k-preserved : goal.loop-k-preserved
loop-k-preserved c =
    let ten_rates : length c.args.rates ≡ 10 = search rules in
    let ten_amounts : length c.args.amounts ≡ 10 = search rules in
    let l = c.loop-k in
    fit_more l.ok c.args.rates c.args.amounts l.k (record { 0 = 0 }) (record { 0 = 0 }) (omega arith) (omega arith) ∙ l.invariant

pub returns : goal.returns
returns c =
    let ten_rates : length c.args.rates ≡ 10 = search rules in
    let l = c.loop-k in
    sym (fit_end l.ok c.args.rates c.args.amounts l.k (omega (arith, ten_rates))) ∙ l.invariant
