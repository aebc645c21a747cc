-- Laws of the test whether words hold a tender. Assumes nothing.
use mathlib.Core.Path.{◌≡◌}
use mathlib.Core.Bool.{true, false, ◌&&◌, and-true, false≢true}
use mathlib.Core.List.{List}
use Prim.Native.Nat.{ℕ, ◌≤◌, ◌<◌}
use native.Mathlib.Omega.{arith}
use lib.Dec.{eqb, ltb}
use lib.ListN.{length, take, get_or}
use borrow.Author.Tests.{lt-ltb, le-leb}
use Rattle.laws.proofs.Tests.{same_test}
use Rattle.rules.specs.Opening.{rising}
use Rattle.buffer.specs.Words.{tender_words, form_number, part, is_tender}

-- words of which a test fails hold none
pub no_tender_lem : (ws : List ℕ) → (is_tender ws ≡ true → ◌≡◌ {A = ℕ} 0 1) → false ≡ is_tender ws
no_tender_lem ws f = same_test false (is_tender ws) (λ e. absurd (false≢true e)) (λ e. absurd (let z = f e in omega arith))

-- the tests that are left where there are words enough, and 1 to 64 codes
pub tests_left : (ws : List ℕ) → tender_words ≤ length ws → 0 < get_or ws 2 0 → get_or ws 2 0 < 65
    → eqb (get_or ws 0 0) form_number && ltb (get_or ws 1 0) 4 && rising (take (get_or ws 2 0) (part 24 64 ws)) ≡ is_tender ws
unfolding is_tender
tests_left ws long some few =
    let x = eqb (get_or ws 0 0) form_number && ltb (get_or ws 1 0) 4 in
    rw (le-leb tender_words (length ws) long, lt-ltb 0 (get_or ws 2 0) some, lt-ltb (get_or ws 2 0) 65 few, and-true x, and-true x)
