-- `offer::rank` meets its contract. Assumes nothing.
use mathlib.Core.Path.{refl, ap, ◌∙◌}
use Prim.Native.Nat.{◌+◌, ◌-◌}
use native.Mathlib.Omega.{arith}
use borrow.Author.Tests.{eq-eqb}
use Rattle.announcement.specs.declared.Side.{Side}
use Rattle.offer.specs.Viewed.{ranks}
use Rattle.offer.proofs.rank.Goals as goal

pub returns-in-La : goal.returns-in-La
unfolding ranks
returns-in-La c =
    let rate = c.args.rate.0 in
    ap (λ (d : Side). ranks d rate rate) c.in-La.is ∙ eq-eqb rate rate refl

pub returns-in-Lp : goal.returns-in-Lp
unfolding ranks
returns-in-Lp c =
    let rate = c.args.rate.0 in
    ap (λ (d : Side). ranks d rate (4294967295 - rate)) c.in-Lp.is ∙ eq-eqb (4294967295 - rate + rate) 4294967295 (omega arith)
