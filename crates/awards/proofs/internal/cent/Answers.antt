-- `awards::internal::cent` meets its contract. Assumes nothing.
use mathlib.Core.Path.{◌≡◌, refl, ap, ◌∙◌}
use mathlib.Core.Bool.{Bool, true, false, cond, ◌&&◌}
use Prim.Native.Nat.{ℕ, ◌≤◌}
use native.Mathlib.Omega.{arith}
use borrow.Author.Tests.{ltb-true}
use lib.Dec.{ltb}
use Rattle.bids.proofs.Loops.{flag_is, one_at_most}
use Rattle.awards.proofs.internal.cent.Goals as goal

cent_le : (s : Bool) (left : ℕ) → cond (s && ltb 0 left) 1 0 ≤ left
cent_le s left = go s (ltb 0 left) refl
  where
    go : (s t : Bool) → ltb 0 left ≡ t → cond (s && t) 1 0 ≤ left
    go true true e = omega (arith, ltb-true)
    go true false e = omega arith
    go false t e = omega arith

pub returns : goal.returns
returns c =
    let left = c.args.left in
    let told = c.stands_equal.result && ltb 0 left in
    let is : c.from.result ≡ cond told 1 0 = c.from.ensures ∙ flag_is told in
    (is ∙ ap {B = ℕ} (λ (s : Bool). cond (s && ltb 0 left) 1 0) c.stands_equal.ensures, omega (arith, is, cent_le c.stands_equal.result left), omega (arith, is, one_at_most told))
