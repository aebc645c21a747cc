-- `places::internal::put_places` meets its contract. The loop's invariant: the first k places are written. Assumes nothing.
use mathlib.Core.Path.{◌≡◌, ap₂}
use borrow.Author.Rules.{rules}
use native.Mathlib.Omega.{arith}
use lib.ListN.{length}
use lib.Seq.{take_all}
use Rattle.output.proofs.Output.{then, said, nothing}
use Rattle.places.specs.Bids.{places_text}
use Rattle.places.proofs.Writing.{text_more, fit_at}
use Rattle.places.proofs.internal.put_places.Goals as goal

pub loop-k-init : goal.loop-k-init
unfolding places_text
loop-k-init c = (omega arith, nothing c.args.space.now c.args.at)

pub put_place-end-requires : goal.put_place-end-requires
put_place-end-requires c =
    let ten_rates : length c.args.rates ≡ 10 = search rules in
    let ten_amounts : length c.args.amounts ≡ 10 = search rules in
    let l = c.loop-k in
    let f = fit_at c.args.rates c.args.amounts l.k (record { 0 = 0 }) (record { 0 = 0 }) (omega arith) (omega arith) c.requires.1 in
    (omega arith, f.0, f.1)

pub loop-k-preserved : goal.loop-k-preserved
loop-k-preserved c =
    let ten_rates : length c.args.rates ≡ 10 = search rules in
    let ten_amounts : length c.args.amounts ≡ 10 = search rules in
    let l = c.loop-k in (
      omega arith,
      said (text_more c.args.rates c.args.amounts l.k (record { 0 = 0 }) (record { 0 = 0 }) (omega arith) (omega arith)) (then (omega arith) l.invariant.1 c.put_place-end.ensures.0),
    )

pub returns : goal.returns
returns c =
    let ten_rates : length c.args.rates ≡ 10 = search rules in
    let ten_amounts : length c.args.amounts ≡ 10 = search rules in
    let l = c.loop-k in
    let k : l.k ≡ 10 = omega arith in
    let w = rw k at l.invariant.1 in
    (said (ap₂ places_text (take_all 10 c.args.rates (omega (arith, ten_rates))) (take_all 10 c.args.amounts (omega (arith, ten_amounts)))) w, omega arith)
