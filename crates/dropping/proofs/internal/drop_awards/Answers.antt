-- `dropping::internal::drop_awards` meets its contract: no pass, or one. Assumes nothing.
use mathlib.Core.Path.{sym, ap₂}
use mathlib.Core.List.{List}
use Prim.Native.Nat.{ℕ}
use Rattle.smallest_award.proofs.Given.{drops_nothing}
use Rattle.dropping.proofs.internal.drop_awards.Goals as goal

pub returns-then-minimum-le1 : goal.returns-then-minimum-le1
returns-then-minimum-le1 c =
    let a = c.args in
    let same = drops_nothing a.minimum.0 a.awards.now c.if-minimum-le1.true in
    sym (ap₂ (λ (n : ℕ) (l : List ℕ). (n, l)) same.1 same.0)
