-- `marginal::internal::key` meets its contract. Assumes nothing.
use mathlib.Core.Path.{◌≡◌, ap, ◌∙◌}
use Prim.Native.Nat.{◌+◌, ◌*◌, ◌/◌}
use native.Mathlib.Omega.{arith}
use Rattle.offer.specs.Viewed.{ranks}
use Rattle.marginal.proofs.internal.key.Goals as goal

pub returns : goal.returns
returns c =
    let a = c.args in
    let same : (c.from.result * 1024 + a.i) / 1024 ≡ c.rank.result = omega (arith, c.from.ensures) in
    (omega arith, ap (ranks a.side a.rate.0) same ∙ c.rank.ensures)
