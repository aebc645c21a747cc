-- Laws of written digits and the return trip, over the width. Assumes nothing.
use mathlib.Core.Path.{◌≡◌, refl, sym, ap, ◌∙◌}
use mathlib.Core.Bool.{true}
use mathlib.Core.List.{List, [], ◌∷◌, ◌++◌, append_assoc, append-nil}
use Prim.Native.Nat.{ℕ, zero, suc, ◌+◌, ◌*◌, ◌-◌, ◌/◌, ◌%◌, ◌^◌, ◌≤◌, ◌<◌}
use native.Mathlib.Nat.{pow-suc, add-zero, add-suc, zero-add, mul_assoc, mul_comm, div-one, div-add-mod', div-div-eq-div-mul, div-lt_iff_lt-mul}
use native.Mathlib.Omega.{arith}
use lib.Dec.{lit<}
use lib.ListN.{length, drop, set, length-append, length-set}
use lib.Seq.{drop-cons, drop_at, get_or-set_same, drop-set-lt}
use borrow.Author.Tests.{le-leb}
use Rattle.std.proofs.Common.{Some}
use Rattle.digits.specs.Decimal.{all_digits, number_from, number_of, digits}
use Rattle.digits.specs.Theorems.{ReadWritten, NumberWritten}
use Rattle.digits.proofs.Reading.{digit_range, first_digit, rest_digits, number_is, is_number_lem, number_join, digits_join}

pub length_digits : (w n : ℕ) → length (digits w n) ≡ w
unfolding digits
length_digits zero n = refl
length_digits (suc w) n = simp (length-append, length_digits w) (omega arith)

-- the last digits of a number are those of its rest by the power of ten
digits_more : (w k n : ℕ) → digits w (k * 10 ^ w + n) ≡ digits w n
unfolding digits
digits_more zero k n = refl
digits_more (suc w) k n =
    let z = k * 10 ^ w in
    let p : k * 10 ^ suc w ≡ z * 10 = ap (λ (x : ℕ). k * x) (pow-suc 10 w) ∙ sym (mul_assoc k (10 ^ w) 10) in
    let x : (k * 10 ^ suc w + n) / 10 ≡ z + n / 10 = rw p (omega arith) in
    let y : (k * 10 ^ suc w + n) % 10 ≡ n % 10 = rw p (omega arith) in
    rw (x, y) (ap (λ (l : List ℕ). l ++ ((48 + n % 10) ∷ [])) (digits_more w k (n / 10)))

pub digits_rest : (w n : ℕ) → digits w (n % 10 ^ w) ≡ digits w n
digits_rest w n = sym (digits_more w (n / 10 ^ w) (n % 10 ^ w)) ∙ ap (digits w) (div-add-mod' n (10 ^ w))

-- digits of two widths: those of the quotient by the power of ten, then those of the rest
pub digits_split : (v w n : ℕ) → digits (v + w) n ≡ digits v (n / 10 ^ w) ++ digits w n
unfolding digits
digits_split v zero n = rw (add-zero, div-one) (sym (append-nil (digits v n)))
digits_split v (suc w) n =
    let q : n / 10 / 10 ^ w ≡ n / 10 ^ suc w = div-div-eq-div-mul n 10 (10 ^ w) ∙ ap (λ (x : ℕ). n / x) (mul_comm 10 (10 ^ w) ∙ sym (pow-suc 10 w)) in
    let t = (48 + n % 10) ∷ [] in
    rw (add-suc v w, ← q) (ap (λ (l : List ℕ). l ++ t) (digits_split v w (n / 10)) ∙ append_assoc (digits v (n / 10 / 10 ^ w)) (digits w (n / 10)) t)

pub digits_last : (v w n : ℕ) → drop v (digits (v + w) n) ≡ digits w n
digits_last v w n = ap (drop v) (digits_split v w n) ∙ drop_at (digits v (n / 10 ^ w)) (digits w n) v (length_digits v (n / 10 ^ w))

-- a number below a power of ten has a zero first at the next width
pub zero_digit : (w n : ℕ) → n < 10 ^ w → digits (suc w) n ≡ 48 ∷ digits w n
unfolding digits
zero_digit zero n h =
    let z : n ≡ 0 = omega arith in
    rw z
zero_digit (suc w) n h =
    ap (λ (l : List ℕ). l ++ ((48 + n % 10) ∷ [])) (zero_digit w (n / 10) ((div-lt_iff_lt-mul {k = 10} {x = n} {y = 10 ^ w} (lit< tt)).1 (rw pow-suc at h)))

-- the loop from the last digit: one digit stored
store_suc : (j r : ℕ) (b : List ℕ) → j < length b → digits j (r / 10) ++ drop j (set b j (48 + r % 10)) ≡ digits (suc j) r ++ drop (suc j) b
unfolding digits
store_suc j r b h =
    let k : j < length (set b j (48 + r % 10)) = simp length-set h in
    rw (drop-cons (set b j (48 + r % 10)) j 0 k, get_or-set_same b j (48 + r % 10) 0 h, drop-set-lt (suc j) b j (48 + r % 10) (omega arith))
    (sym (append_assoc (digits j (r / 10)) ((48 + r % 10) ∷ []) (drop (suc j) b)))

pub store_digit : (i r : ℕ) (b : List ℕ) → 0 < i → i ≤ length b → digits (i - 1) (r / 10) ++ drop (i - 1) (set b (i - 1) (48 + r % 10)) ≡ digits i r ++ drop i b
store_digit i r b p h =
    let e : i ≡ suc (i - 1) = omega arith in
    store_suc (i - 1) r b (omega arith) ∙ rw (← e)

-- written digits are digits, and make their number
pub written-digits : (w n : ℕ) → all_digits (digits w n) ≡ true
unfolding digits all_digits
written-digits zero n = refl
written-digits (suc w) n =
    digits_join (digits w (n / 10)) ((48 + n % 10) ∷ []) ∙ rw (written-digits w (n / 10), le-leb 48 (48 + n % 10) (omega arith), le-leb (48 + n % 10) 57 (omega arith))

pub written-number : (w n : ℕ) → n < 10 ^ w → number_of (digits w n) ≡ n
unfolding digits number_from
written-number zero n h = omega arith
written-number (suc w) n h =
    let i = written-number w (n / 10) ((div-lt_iff_lt-mul {k = 10} {x = n} {y = 10 ^ w} (lit< tt)).1 (rw pow-suc at h)) in
    number_join 0 (digits w (n / 10)) ((48 + n % 10) ∷ []) ∙ rw i (omega arith)

-- the return trip: a number that fits its width, written, reads back
pub read-written : ReadWritten
read-written w n h = number_is (digits w n) (written-digits w n) ∙ ap Some (written-number w n h)

again : (k a : ℕ) (s : List ℕ) → all_digits s ≡ true → digits (k + length s) (number_from a s) ≡ digits k a ++ s
unfolding digits number_from
again k a [] h = rw add-zero (sym (append-nil (digits k a)))
again k a (b ∷ s) h =
    let r = digit_range b (first_digit b s h) in
    let q : (a * 10 + (b - 48)) / 10 ≡ a = omega arith in
    let d : 48 + (a * 10 + (b - 48)) % 10 ≡ b = omega arith in
    let l : k + suc (length s) ≡ suc k + length s = omega arith in
    rw l (again (suc k) (a * 10 + (b - 48)) s (rest_digits b s h) ∙ rw (q, d) (append_assoc (digits k a) (b ∷ []) s))

-- and digits that were read, written from their number, are the same bytes
pub number-written : NumberWritten
unfolding digits
number-written w n s l e =
    let p = is_number_lem s n e in
    rw (← p.1) (rw (zero-add, l) at (again 0 0 s p.0))
