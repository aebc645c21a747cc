-- `numbers::internal::put_places` meets its contract. The loop's invariant: the first k places are written. Assumes nothing.
use mathlib.Core.Path.{◌≡◌, refl, ap, ◌∙◌}
use native.Mathlib.Omega.{arith}
use Rattle.output.proofs.Output.{then, said, nothing}
use Rattle.numbers.specs.Numbers.{place_numbers, places_numbers}
use Rattle.numbers.proofs.Parts.{place-part, places_more}
use Rattle.numbers.proofs.internal.put_places.Goals as goal

pub loop-k-init : goal.loop-k-init
unfolding places_numbers
loop-k-init c = (omega arith, refl, nothing c.args.numbers.now c.args.at)

pub place_of-requires : goal.place_of-requires
place_of-requires c = record { m_value = c.requires.0; k_bound = omega arith }

pub loop-k-preserved : goal.loop-k-preserved
loop-k-preserved c =
    let start = c in
    let l = c.loop-k in
    let k = l.k in
    let p = c.place_of.ensures ∙ place-part start.args.m.now start.requires.0 k (omega arith) in
    (omega arith, omega arith, said (places_more k start.args.m.now) (then (omega arith) l.invariant.2 (said (ap place_numbers p) c.put_place-end.ensures.0)))

pub returns : goal.returns
returns c =
    let l = c.loop-k in
    let k : l.k ≡ 10 = omega arith in
    (rw k at l.invariant.2, omega arith)
