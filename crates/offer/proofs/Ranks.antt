-- Rates compare as their ranks do. Assumes nothing.
use mathlib.Core.Path.{◌≡◌, refl, sym}
use mathlib.Core.Bool.{Bool, true, false}
use Prim.Native.Nat.{ℕ, ◌+◌}
use native.Mathlib.Omega.{arith}
use lib.Dec.{ltb}
use borrow.Author.Tests.{ltb-true, ltb-false, lt-ltb, le-ltb, eqb-true}
use Rattle.announcement.specs.declared.Side.{Side}
use Rattle.announcement.specs.declared.Side.TheVariants.{La, Lp}
use Rattle.rules.specs.Allotment.{better_rate}
use Rattle.offer.specs.Viewed.{ranks}

pub ranks_compare : (d : Side) (r s k l : ℕ) → ranks d r k ≡ true → ranks d s l ≡ true → ltb k l ≡ better_rate d r s
unfolding ranks better_rate
ranks_compare La r s k l h g = go (ltb k l) refl
  where
    go : (t : Bool) → ltb k l ≡ t → t ≡ ltb r s
    go true e = sym (lt-ltb r s (omega (arith, ltb-true, eqb-true k r h, eqb-true l s g)))
    go false e = sym (le-ltb r s (omega (arith, ltb-false, eqb-true k r h, eqb-true l s g)))
ranks_compare Lp r s k l h g = go (ltb k l) refl
  where
    go : (t : Bool) → ltb k l ≡ t → t ≡ ltb s r
    go true e = sym (lt-ltb s r (omega (arith, ltb-true, eqb-true (k + r) 4294967295 h, eqb-true (l + s) 4294967295 g)))
    go false e = sym (le-ltb s r (omega (arith, ltb-false, eqb-true (k + r) 4294967295 h, eqb-true (l + s) 4294967295 g)))
