-- Codes listed as errors: none where their number is zero, some where it is not; and the reply to some. Assumes nothing.
use mathlib.Core.Path.{◌≡◌, refl, sym, ap}
use mathlib.Core.Bool.{false, false≢true}
use mathlib.Core.List.{List, [], ◌∷◌, map}
use Prim.Native.Nat.{ℕ, zero, suc, ◌≤◌, ◌<◌}
use native.Mathlib.Omega.{arith}
use lib.Dec.{eqb}
use lib.ListN.{length, take}
use borrow.Author.Tests.{ne_eqb}
use Rattle.rules.specs.Receiving.{Error, is_empty}
use Rattle.rules.specs.Replies.{returned_message}
use Rattle.rules.specs.Calls.{reply}
use Rattle.errors.specs.Listed.{named}

pub listed_none : (codes : List ℕ) (n : ℕ) → n ≤ 0 → map named (take n codes) ≡ []
listed_none codes n h =
    let e : n ≡ 0 = omega arith in
    ap (λ (k : ℕ). map named (take k codes)) e

pub listed_some : (codes : List ℕ) (n : ℕ) → 0 < n → 0 < length codes → is_empty (map named (take n codes)) ≡ false
unfolding is_empty
listed_some codes zero h k = absurd (omega arith)
listed_some [] (suc n) h k = absurd (omega arith)
listed_some (c ∷ codes) (suc n) h k = refl

pub empty_told : (codes : List ℕ) (n : ℕ) → 0 < length codes → eqb n 0 ≡ is_empty (map named (take n codes))
unfolding is_empty
empty_told codes zero h = refl
empty_told [] (suc n) h = absurd (omega arith)
empty_told (c ∷ codes) (suc n) h = ne_eqb (suc n) 0 (λ e. absurd (omega (arith, e)))

pub reply_some : (es : List Error) (identifier m : List ℕ) (time : ℕ) → is_empty es ≡ false → reply es identifier m time ≡ returned_message m es
unfolding reply is_empty
reply_some [] identifier m time h = absurd (false≢true (sym h))
reply_some (e ∷ es) identifier m time h = refl
