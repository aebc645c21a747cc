-- `awards::internal::cents_left` meets its contract. Assumes nothing.
use mathlib.Core.Path.{◌≡◌, refl}
use mathlib.Core.Bool.{Bool, true, false, cond}
use Prim.Native.Nat.{ℕ, ◌-◌}
use native.Mathlib.Omega.{arith}
use borrow.Author.Tests.{le-leb, lt-leb, leb-true}
use lib.Dec.{leb}
use Rattle.awards.specs.LastRate.{cents_at}
use Rattle.awards.proofs.internal.cents_left.Goals as goal

-- what is left of q after b and s, none where b is all of it
none_or_left : (q b s : ℕ) → cond (leb q b) 0 ((q - b) - s) ≡ (q - b) - s
none_or_left q b s = go (leb q b) refl
  where
    go : (t : Bool) → leb q b ≡ t → cond t 0 ((q - b) - s) ≡ (q - b) - s
    go true e = omega (arith, leb-true)
    go false e = refl

pub returns-then-t-q : goal.returns-then-t-q
unfolding cents_at
returns-then-t-q c = simp (le-leb _ _ c.if-t-q.true)

pub returns : goal.returns
unfolding cents_at
returns c =
    let a = c.args in
    simp (lt-leb _ _ c.if-t-q.false) (omega (arith, c.saturating_sub-rest.ensures, c.saturating_sub.ensures, none_or_left a.q.0 a.t.better.0 a.shared))
