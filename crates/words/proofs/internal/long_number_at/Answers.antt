-- `words::internal::long_number_at` meets its contract: the number of two words. Assumes nothing.
use Rattle.std.proofs.Common.{◌≡◌, ℕ, ◌+◌, ◌-◌, ◌*◌, ◌<◌, Bool, ◌≤◌, ◌&&◌, List, ◌++◌, length, take, drop, sym, ap, ◌∙◌, ap₂, arith}
use Rattle.digits.specs.Decimal.{Digits}
use Rattle.std.proofs.Common.{Some, None}
use Rattle.digits.specs.Decimal.{digits_of, is_number, number_in}
use Rattle.words.proofs.Parts.{length_part, two_parts, number_fits, two_numbers, no_number}
use Rattle.words.proofs.internal.long_number_at.Goals as goal

-- the two words
abbrev high : List ℕ → ℕ → ℕ → List ℕ
high s from to = take (to - 8 - from) (drop from s)

abbrev low : List ℕ → ℕ → List ℕ
low s to = take (to - (to - 8)) (drop (to - 8) s)

low_length : (s : List ℕ) (to : ℕ) → 16 ≤ to → to ≤ length s → length (low s to) ≡ 8
low_length s to h k =
    let e : to - (to - 8) ≡ 8 = omega arith in
    length_part s (to - 8) to (omega arith) (omega arith) ∙ e

high_length : (s : List ℕ) (from to : ℕ) → from + 8 < to → to ≤ length s → length (high s from to) ≡ to - 8 - from
high_length s from to h k = length_part s from (to - 8) (omega arith) (omega arith)

both : (s : List ℕ) (from to : ℕ) → from + 8 < to → to ≤ length s → high s from to ++ low s to ≡ take (to - from) (drop from s)
both s from to h k = two_parts s from to (omega arith) (omega arith)

-- what is known where a word has a number
number_of_part : (part : List ℕ) (n : ℕ) → length part ≤ 8 → Some n ≡ digits_of part → (n ≡ number_in (digits_of part)) × (n < 100000000)
number_of_part part n few e =
    let g = ap number_in e in
    let h = number_fits part few in
    (g, omega (arith, g, h))

pub returns-in_err-high : goal.returns-in_err-high
returns-in_err-high c =
    let a = c.args in
    let none : None ≡ digits_of (high a.s.now a.from a.to) = c.in_err-high.ensures in
    c.from_residual.ensures
    ∙ no_number (high a.s.now a.from a.to) (low a.s.now a.to) (ap (λ (d : Digits). is_number d && is_number (digits_of (low a.s.now a.to))) (sym none))
    ∙ ap digits_of (both a.s.now a.from a.to (omega arith) (omega arith))

pub returns-in_err-low : goal.returns-in_err-low
returns-in_err-low c =
    let a = c.args in
    let some : Some c.in_ok-high.high ≡ digits_of (high a.s.now a.from a.to) = c.in_ok-high.ensures in
    let none : None ≡ digits_of (low a.s.now a.to) = c.in_err-low.ensures in
    c.from_residual-in_err-low.ensures
    ∙ no_number (high a.s.now a.from a.to) (low a.s.now a.to) (ap₂ (λ (d e : Digits). is_number d && is_number e) (sym some) (sym none))
    ∙ ap digits_of (both a.s.now a.from a.to (omega arith) (omega arith))

pub overflow_mul-result : goal.overflow_mul-result
overflow_mul-result c =
    let a = c.args in
    omega (arith, number_of_part (high a.s.now a.from a.to) c.in_ok-high.high (omega (arith, high_length a.s.now a.from a.to (omega arith) (omega arith))) c.in_ok-high.ensures)

pub overflow_add-result : goal.overflow_add-result
overflow_add-result c =
    let a = c.args in
    omega (
      arith,
      number_of_part (high a.s.now a.from a.to) c.in_ok-high.high (omega (arith, high_length a.s.now a.from a.to (omega arith) (omega arith))) c.in_ok-high.ensures,
      number_of_part (low a.s.now a.to) c.in_ok-low.low (omega (arith, low_length a.s.now a.to (omega arith) (omega arith))) c.in_ok-low.ensures,
    )

pub returns : goal.returns
returns c =
    let a = c.args in
    let hi = high a.s.now a.from a.to in
    let lo = low a.s.now a.to in
    let long = low_length a.s.now a.to (omega arith) (omega arith) in
    let x : Some c.in_ok-high.high ≡ digits_of hi = c.in_ok-high.ensures in
    let y : Some c.in_ok-low.low ≡ digits_of lo = c.in_ok-low.ensures in
    ap₂ (λ (u v : Digits). Some (number_in u * 100000000 + number_in v)) x y
    ∙ two_numbers hi lo long (ap₂ (λ (d e : Digits). is_number d && is_number e) (sym x) (sym y))
    ∙ ap digits_of (both a.s.now a.from a.to (omega arith) (omega arith))
