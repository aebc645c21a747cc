-- A bid's share of what its rate gets, rounded down, where that sum and the total of the rate change. Assumes nothing.
use mathlib.Core.Path.{◌≡◌, refl}
use mathlib.Core.Bool.{Bool, true, false}
use Prim.Native.Nat.{ℕ, ◌+◌, ◌-◌, ◌*◌, ◌/◌, ◌≤◌, ◌<◌, min}
use native.Mathlib.Nat.{mul-div-le, lt-mul-div-succ, lt_of_mul-lt-mul_left, mul-le-mul_left, mul-le-mul_right}
use native.Mathlib.Omega.{arith}
use lib.Dec.{leb}
use borrow.Author.Tests.{leb-true, leb-false}

-- a rate gets u₁ for bids of e₁ in all, then u₂ for e₂: the exact share of an amount, a * u / e, falls, and by at most d where a ≤ e₂
pub record Falls (d u₁ u₂ e₁ e₂ : ℕ) : Type 0 where
  pub some_first : 0 < e₁
  pub some_second : 0 < e₂
  pub falls : u₂ * e₁ ≤ u₁ * e₂
  pub little : u₁ * e₂ ≤ u₂ * e₁ + d * e₁

module _ {d u₁ u₂ e₁ e₂ : ℕ} (f : Falls d u₁ u₂ e₁ e₂) (a : ℕ) where
  -- so does the share rounded down
  pub share_falls : a * u₂ / e₂ ≤ a * u₁ / e₁
  share_falls = omega (arith, lt_of_mul-lt-mul_left (e₁ * e₂) times)
    where
      times : e₁ * e₂ * (a * u₂ / e₂) < e₁ * e₂ * (a * u₁ / e₁ + 1)
      times =
          omega (
            arith,
            mul-le-mul_left e₁ (mul-div-le (a * u₂) e₂),
            mul-le-mul_left e₂ (lt-mul-div-succ (a * u₁) f.some_first),
            mul-le-mul_left a f.falls,
          )

  pub share_falls_little : a ≤ e₂ → a * u₁ / e₁ ≤ a * u₂ / e₂ + d
  share_falls_little within = omega (arith, lt_of_mul-lt-mul_left (e₁ * e₂) times)
    where
      times : e₁ * e₂ * (a * u₁ / e₁) < e₁ * e₂ * (a * u₂ / e₂ + d + 1)
      times =
          omega (
            arith,
            mul-le-mul_left e₂ (mul-div-le (a * u₁) e₁),
            mul-le-mul_left e₁ (lt-mul-div-succ (a * u₂) f.some_second),
            mul-le-mul_left a f.little,
            mul-le-mul_right (d * e₁) within,
          )

  -- the share of the raised bid itself rises by at most d
  pub own_share_rises_little : u₂ ≤ e₂ → (a + d) * u₂ / e₂ ≤ a * u₁ / e₁ + d
  own_share_rises_little within = omega (arith, lt_of_mul-lt-mul_left (e₁ * e₂) times)
    where
      times : e₁ * e₂ * ((a + d) * u₂ / e₂) < e₁ * e₂ * (a * u₁ / e₁ + d + 1)
      times =
          omega (
            arith,
            mul-le-mul_left e₁ (mul-div-le ((a + d) * u₂) e₂),
            mul-le-mul_left e₂ (lt-mul-div-succ (a * u₁) f.some_first),
            mul-le-mul_left a f.falls,
            mul-le-mul_left (d * e₁) within,
          )

-- the rate's own total stays, and what it gets falls by at most d
pub falls_elsewhere : (d u₁ u₂ e : ℕ) → 0 < e → u₂ ≤ u₁ → u₁ ≤ u₂ + d → Falls d u₁ u₂ e e
falls_elsewhere d u₁ u₂ e some low high =
    record {
      some_first = some;
      some_second = some;
      falls = mul-le-mul_right e low;
      little = omega (arith, mul-le-mul_right e high);
    }

-- of m that better rates leave, the rate gets the smaller of m and its own total, which rises by d
pub falls_here : (d m e : ℕ) → 0 < e → Falls d (min m e) (min m (e + d)) e (e + d)
falls_here d m e some =
    record {
      some_first = some;
      some_second = omega arith;
      falls = shrinks (leb m e) refl;
      little = omega (arith, mul-le-mul_right e grows, mul-le-mul_right d within);
    }
  where
    grows : min m e ≤ min m (e + d)
    grows = omega arith

    within : min m e ≤ e
    within = omega arith

    shrinks : (t : Bool) → leb m e ≡ t → min m (e + d) * e ≤ min m e * (e + d)
    shrinks true h =
        let p : min m e ≡ m = omega (arith, leb-true) in
        let q : min m (e + d) ≡ m = omega (arith, leb-true) in
        rw (p, q) (omega arith)
    shrinks false h =
        let p : min m e ≡ e = omega (arith, leb-false) in
        let q : min m (e + d) ≤ e + d = omega arith in
        rw p (omega (arith, mul-le-mul_right e q))
