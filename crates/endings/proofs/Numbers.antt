-- Laws of the zeros in front of a number, and the length of its digits. Assumes nothing.
use mathlib.Core.Path.{◌≡◌, refl, sym, ap, ◌∙◌}
use mathlib.Core.Bool.{Bool, true, false, cond, not, not-not, true≢false}
use mathlib.Core.List.{List, [], ◌∷◌, ◌++◌, append-nil}
use Prim.Native.Nat.{ℕ, zero, suc, ◌+◌, ◌-◌, ◌≤◌, ◌<◌}
use native.Mathlib.Omega.{arith}
use native.Mathlib.Numerals.{add-one}
use lib.ListN.{length, take, drop, get_or, length-take, length-drop, drop_of_length-le}
use lib.Seq.{drop-cons, take_all}
use lib.Dec.{eqb, ltb}
use borrow.Author.Tests.{eq-eqb, ne_eqb, eqb-true, ltb-true, ltb-false}
use Rattle.std.specs.Prelude.{Some, None}
use Rattle.std.specs.Option.{unwrap_or}
use Rattle.std.specs.List.{position, position_or_len}
use Rattle.std.proofs.lemmas.List.Sums.{fails_before_first, passes_at_first}
use Rattle.digits.specs.Decimal.{digits}
use Rattle.digits.proofs.Writing.{length_digits}
use Rattle.output.specs.Output.{Wrote}
use Rattle.output.proofs.Output.{from_start}
use Rattle.endings.specs.Endings.{no_zeros, decimal}

zero_first : (b : ℕ) (s : List ℕ) → 0 < length s → b ≡ 48 → no_zeros (b ∷ s) ≡ no_zeros s
unfolding no_zeros
zero_first b [] h e = absurd (omega (arith, h))
zero_first b (c ∷ s) h e = ap (λ (t : Bool). cond t (no_zeros (c ∷ s)) (b ∷ c ∷ s)) (eq-eqb b 48 e)

no_zero : (b : ℕ) (s : List ℕ) → (b ≡ 48 → ⊥) → no_zeros (b ∷ s) ≡ b ∷ s
unfolding no_zeros
no_zero b [] e = refl
no_zero b (c ∷ s) e = ap (λ (t : Bool). cond t (no_zeros (c ∷ s)) (b ∷ c ∷ s)) (ne_eqb b 48 e)

last_one : (b : ℕ) (s : List ℕ) → length s ≡ 0 → no_zeros (b ∷ s) ≡ b ∷ s
unfolding no_zeros
last_one b [] e = refl
last_one b (c ∷ s) e = absurd (omega (arith, e))

module _ (s : List ℕ) (i : ℕ) where
  -- a zero before other digits is passed over
  pub past_zero : i + 1 < length s → get_or s i 0 ≡ 48 → no_zeros (drop (i + 1) s) ≡ no_zeros (drop i s)
  past_zero h e =
      let d = length-drop (suc i) s in
      let p : i + 1 ≡ suc i = add-one i in
      rw p (sym (ap no_zeros (drop-cons s i 0 (omega arith)) ∙ zero_first (get_or s i 0) (drop (suc i) s) (omega arith) e))

  -- another digit, and the last one, stay
  pub at_digit : i < length s → (get_or s i 0 ≡ 48 → ⊥) → no_zeros (drop i s) ≡ drop i s
  at_digit h e = ap no_zeros (drop-cons s i 0 h) ∙ no_zero (get_or s i 0) (drop (suc i) s) e ∙ sym (drop-cons s i 0 h)

  pub at_last : i + 1 ≡ length s → no_zeros (drop i s) ≡ drop i s
  at_last h =
      let d = length-drop (suc i) s in
      let l : i < length s = omega arith in
      ap no_zeros (drop-cons s i 0 l) ∙ last_one (get_or s i 0) (drop (suc i) s) (omega arith) ∙ sym (drop-cons s i 0 l)

-- zeros before a digit are passed over
zeros_passed : (s : List ℕ) (i : ℕ) → i < length s → ((k : ℕ) → k < i → get_or s k 0 ≡ 48) → no_zeros (drop i s) ≡ no_zeros s
zeros_passed s zero h zeros = refl
zeros_passed s (suc i) h zeros =
    let p : suc i ≡ i + 1 = sym (add-one i) in
    rw p (past_zero s i (omega arith) (zeros i (omega arith))) ∙ zeros_passed s i (omega arith) (λ k below. zeros k (omega arith))

-- past the zeros in front stands the first digit that is no zero, or else the last one
abbrev is_other : ℕ → Bool
is_other b = not (eqb b 48)

zero_there : (b : ℕ) → is_other b ≡ false → b ≡ 48
zero_there b e = eqb-true b 48 (sym (not-not (eqb b 48)) ∙ ap not e)

other_there : (b : ℕ) → is_other b ≡ true → b ≡ 48 → ⊥
other_there b e z = true≢false (sym e ∙ ap not (eq-eqb b 48 z))

pub past_first : (s : List ℕ) → 0 < length s → let r = unwrap_or (position is_other s) (length s - 1) in (drop r s ≡ no_zeros s) × (r < length s)
past_first s h = go (ltb n (length s)) refl
  where
    n : ℕ
    n = position_or_len is_other s

    before : (k : ℕ) → k < n → get_or s k 0 ≡ 48
    before k below = zero_there (get_or s k 0) (fails_before_first is_other s k 0 below)

    go : (b : Bool) → ltb n (length s) ≡ b → let r = unwrap_or (cond b (Some n) None) (length s - 1) in (drop r s ≡ no_zeros s) × (r < length s)
    go true e =
        let l : n < length s = ltb-true n (length s) e in
        (sym (at_digit s n l (other_there (get_or s n 0) (passes_at_first is_other s 0 l))) ∙ zeros_passed s n l before, l)
    go false e =
        let l : length s ≤ n = ltb-false n (length s) e in
        let last = length s - 1 in
        (sym (at_last s last (omega arith)) ∙ zeros_passed s last (omega arith) (λ k below. before k (omega arith)), omega arith)

-- the digits of a number, written over all of a text, and those past its zeros
pub decimal-written : (d text : List ℕ) (n end first : ℕ) → length d ≡ 20 → Wrote d 0 (digits 20 n) text end → drop first text ≡ no_zeros text → take (20 - first) (drop first text) ≡ decimal n
unfolding decimal
decimal-written d text n end first l w e =
    let k = length_digits 20 n in
    let none : drop (length (digits 20 n)) d ≡ [] = drop_of_length-le d {i = length (digits 20 n)} (omega arith) in
    let all : text ≡ digits 20 n = w.bytes ∙ from_start d (digits 20 n) ∙ ap (λ (x : List ℕ). digits 20 n ++ x) none ∙ append-nil (digits 20 n) in
    let m = ap length all in
    let short = length-drop first text in
    take_all (20 - first) (drop first text) (omega arith) ∙ e ∙ ap no_zeros all

pub part_short : (first : ℕ) (text : List ℕ) → length (take (20 - first) (drop first text)) ≤ 20
part_short first text = rw (length-take (20 - first) (drop first text)) (omega arith)
