-- What an accepted opening says: none of its conditions holds. Assumes nothing.
use mathlib.Core.Path.{◌≡◌, refl}
use mathlib.Core.Bool.{Bool, true, false, not, ◌||◌}
use mathlib.Core.List.{List, [], ◌∷◌}
use mathlib.Core.Option.{none}
use Prim.Native.Nat.{ℕ, ◌≤◌}
use native.Mathlib.Omega.{arith}
use lib.Dec.{ltb, eqb}
use lib.ListN.{length}
use borrow.Author.Tests.{ltb-false, eqb-true, not-false}
use Rattle.laws.proofs.Tests.{or_left, or_right}
use Rattle.envelope.specs.Refusals.{first_holding}
use Rattle.rules.specs.Opening.{Admission, any, not_announcement, other_origin, malformed_announcement, unknown_type, impossible_numbers, dates_disordered, bad_codes, limits_miscounted, limit_too_long, rising, opening_refused}

pub next_condition : (n : ℕ) (b : Bool) (rest : List (ℕ × Bool)) → first_holding ((n, b) ∷ rest) ≡ none → (b ≡ false) × (first_holding rest ≡ none)
unfolding first_holding
next_condition n false rest h = (refl, h)
next_condition n true rest h = absurd (let z : ◌≡◌ {A = ℕ} 0 1 = cc in omega arith)

-- so that there are at most 64 codes, they rise, and there are as many limits
module _ (m : List ℕ) (a : Admission) (h : opening_refused m a ≡ none) where
  abbrev codes : List ℕ
  codes = a.codes

  admission_good : first_holding ((7, bad_codes codes) ∷ (19, limits_miscounted a) ∷ (20, limit_too_long a.limits) ∷ []) ≡ none
  unfolding opening_refused
  admission_good =
      let c1 = next_condition 1 (not_announcement m) _ h in
      let c2 = next_condition 2 (other_origin m) _ c1.1 in
      let c3 = next_condition 3 (malformed_announcement m) _ c2.1 in
      let c4 = next_condition 4 (unknown_type m) _ c3.1 in
      let c5 = next_condition 5 (impossible_numbers m) _ c4.1 in
      let c6 = next_condition 6 (dates_disordered m) _ c5.1 in
      c6.1

  codes_good : bad_codes codes ≡ false
  codes_good = (next_condition 7 (bad_codes codes) _ admission_good).0

  -- as many limits as codes
  pub as_many_limits : length a.limits ≡ length codes
  unfolding limits_miscounted
  as_many_limits =
      eqb-true (length a.limits) (length codes)
      (not-false (eqb (length a.limits) (length codes)) (next_condition 19 (limits_miscounted a) _ (next_condition 7 (bad_codes codes) _ admission_good).1).0)

  pub few-codes : length codes ≤ 64
  unfolding bad_codes
  few-codes =
      ltb-false 64 (length codes)
      (or_right (eqb (length codes) 0) (ltb 64 (length codes))
      (or_left (eqb (length codes) 0 || ltb 64 (length codes)) (not (rising codes))
      (or_left (eqb (length codes) 0 || ltb 64 (length codes) || not (rising codes)) (any (ltb 99999) codes) codes_good)))

  pub rising-codes : rising codes ≡ true
  unfolding bad_codes
  rising-codes =
      not-false (rising codes)
      (or_right (eqb (length codes) 0 || ltb 64 (length codes)) (not (rising codes))
      (or_left (eqb (length codes) 0 || ltb 64 (length codes) || not (rising codes)) (any (ltb 99999) codes) codes_good))
