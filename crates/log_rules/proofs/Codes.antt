-- The first 65 codes tell all that opening asks. Assumes nothing.
use mathlib.Core.Path.{◌≡◌, refl, sym, ap, ◌∙◌}
use mathlib.Core.Bool.{Bool, true, false, cond, not, ◌||◌}
use mathlib.Core.List.{List, [], ◌∷◌, ◌++◌}
use mathlib.Core.Option.{Option, some}
use Prim.Native.Nat.{ℕ, ◌<◌}
use native.Mathlib.Omega.{arith}
use lib.Dec.{eqb, ltb}
use lib.ListN.{length, take}
use lib.Seq.{take_all, length-take-le}
use borrow.Author.Tests.{ltb-true, ltb-false, lt-ltb}
use Rattle.envelope.specs.Refusals.{first_holding, unless_refused}
use Rattle.rules.specs.Opening.{uncapped, any, limits_miscounted, limit_too_long, rising, not_announcement, other_origin, malformed_announcement, unknown_type, impossible_numbers, dates_disordered, bad_codes, opening_refused, terms_of}
use Rattle.rules.specs.Receiving.{new_book}
use Rattle.rules.specs.Calls.{Tender, Open, no_tender, open_tender}
use Rattle.log_rules.specs.Theorems.{First65Tell}

or_true : (a b : Bool) → b ≡ true → (a || b) ≡ true
or_true true b h = refl
or_true false b h = h

true_or : (a b : Bool) → a ≡ true → (a || b) ≡ true
true_or a b h = rw h

-- over 64 codes are bad whatever they are
many_bad : (codes : List ℕ) → 64 < length codes → bad_codes codes ≡ true
unfolding bad_codes
many_bad codes h =
    true_or (eqb (length codes) 0 || ltb 64 (length codes) || not (rising codes)) (any (ltb 99999) codes)
    (true_or (eqb (length codes) 0 || ltb 64 (length codes)) (not (rising codes))
    (or_true (eqb (length codes) 0) (ltb 64 (length codes)) (lt-ltb 64 (length codes) h)))

-- the conditions before that of the codes
before-codes : List ℕ → List (ℕ × Bool)
before-codes m = (1, not_announcement m) ∷ (2, other_origin m) ∷ (3, malformed_announcement m) ∷ (4, unknown_type m) ∷ (5, impossible_numbers m) ∷ (6, dates_disordered m) ∷ []

after-codes : List ℕ → List (ℕ × Bool)
after-codes codes = (19, limits_miscounted (uncapped codes)) ∷ (20, limit_too_long (uncapped codes).limits) ∷ []

number_is : (m codes : List ℕ) → opening_refused m (uncapped codes) ≡ first_holding (before-codes m ++ (7, bad_codes codes) ∷ after-codes codes)
unfolding opening_refused before-codes after-codes
number_is m codes = refl

-- where a condition holds, those after it are not looked at
holds : (xs : List (ℕ × Bool)) (n : ℕ) (rest : List (ℕ × Bool)) → first_holding (xs ++ (n, true) ∷ rest) ≡ first_holding (xs ++ (n, true) ∷ [])
unfolding first_holding
holds [] n rest = refl
holds (x ∷ xs) n rest = ap (λ (l : Option ℕ). cond x.1 (some x.0) l) (holds xs n rest)

holds_some : (xs : List (ℕ × Bool)) (n : ℕ) → (k : ℕ) × (first_holding (xs ++ (n, true) ∷ []) ≡ some k)
unfolding first_holding
holds_some [] n = (n, refl)
holds_some (x ∷ xs) n = go x.1 (holds_some xs n)
  where
    go : (b : Bool) → (k : ℕ) × (first_holding (xs ++ (n, true) ∷ []) ≡ some k) → (k : ℕ) × (cond b (some x.0) (first_holding (xs ++ (n, true) ∷ [])) ≡ some k)
    go true p = (x.0, refl)
    go false p = p

-- a bad list refuses, and what it refuses with does not depend on it
bad_number : List ℕ → Option ℕ
bad_number m = first_holding (before-codes m ++ (7, true) ∷ [])

bad_opening : (m codes : List ℕ) → bad_codes codes ≡ true → open_tender m (uncapped codes) ≡ (bad_number m, no_tender)
unfolding open_tender bad_number
bad_opening m codes h =
    let e : opening_refused m (uncapped codes) ≡ bad_number m = number_is m codes ∙ ap (λ (b : Bool). first_holding (before-codes m ++ (7, b) ∷ after-codes codes)) h ∙ holds (before-codes m) 7 (after-codes codes) in
    let tender : Tender = record { terms = terms_of m (uncapped codes); state = Open; book = new_book codes } in
    λ i. (e i, (ap (λ (l : Option ℕ). unless_refused l no_tender tender) (e ∙ (holds_some (before-codes m) 7).1)) i)

pub first_65_tell : First65Tell
first_65_tell m codes = go (ltb 65 (length codes)) refl
  where
    go : (b : Bool) → ltb 65 (length codes) ≡ b → open_tender m (uncapped (take 65 codes)) ≡ open_tender m (uncapped codes)
    go true h =
        let long = ltb-true 65 (length codes) h in
        bad_opening m (take 65 codes) (many_bad (take 65 codes) (omega (arith, length-take-le 65 codes (omega arith)))) ∙ sym (bad_opening m codes (many_bad codes (omega arith)))
    go false h = ap (λ (l : List ℕ). open_tender m (uncapped l)) (take_all 65 codes (ltb-false 65 (length codes) h))
