-- Laws of digits written as the bytes of a word. Assumes nothing.
use Rattle.std.proofs.Common.{◌≡◌, ℕ, zero, suc, ◌+◌, ◌-◌, ◌*◌, ◌/◌, ◌%◌, ◌<◌, ◌≤◌, true, leb, List, [], ◌∷◌, ◌++◌, map, length, get_or, take, drop, replicate, sym, refl, ap, ◌∙◌, add-zero, arith, length-drop, get_or-drop, drop-drop, le-leb, leb-true}
use lib.ListN.{length-map}
use Rattle.laws.proofs.Tests.{and_left, and_right}
use Rattle.output.specs.Output.{Wrote}
use Rattle.output.proofs.Output.{overlapped}
use Rattle.std.proofs.Common.{Some}
use Rattle.digits.specs.Decimal.{all_digits, number_from, digits}
use Rattle.digits.proofs.Reading.{number_is}
use Rattle.digits.proofs.Writing.{number-written, digits_rest, digits_split, zero_digit}
use Rattle.words.specs.Words.{low_bytes, all_small, decimal, HoldsDigits}
use Rattle.words.proofs.Bytes.{word_of}

-- the loop over the bytes of a word: the next byte, and those after it
module _ (s : List ℕ) (i k t : ℕ) (h : i < k) (e : drop i s ≡ low_bytes (k - i) t) where
  next_bytes : drop i s ≡ t % 256 ∷ low_bytes (k - (i + 1)) (t / 256)
  unfolding low_bytes
  next_bytes =
      let n : k - i ≡ suc (k - (i + 1)) = omega arith in
      e ∙ ap (λ (j : ℕ). low_bytes j t) n

  pub byte_at : get_or s i 0 ≡ t % 256
  byte_at = sym (get_or-drop i s 0 0 ∙ ap (λ (j : ℕ). get_or s j 0) (add-zero i)) ∙ ap (λ (l : List ℕ). get_or l 0 0) next_bytes

  pub bytes_after : drop (i + 1) s ≡ low_bytes (k - (i + 1)) (t / 256)
  bytes_after = sym (drop-drop 1 i s) ∙ ap (drop 1) next_bytes

-- numbers 0 to 9 as digits
abbrev up : ℕ → ℕ
up d = d + 48

pub length-bytes : (k t : ℕ) → length (low_bytes k t) ≡ k
unfolding low_bytes
length-bytes zero t = refl
length-bytes (suc k) t = ap suc (length-bytes k (t / 256))

digits_up : (s : List ℕ) → all_small s ≡ true → all_digits (map up s) ≡ true
unfolding all_small all_digits
digits_up [] h = refl
digits_up (d ∷ s) h =
    let r = leb-true d 9 (and_left (leb d 9) (all_small s) h) in
    rw (le-leb 48 (d + 48) (omega arith), le-leb (d + 48) 57 (omega arith)) (digits_up s (and_right (leb d 9) (all_small s) h))

number_up : (n : ℕ) (s : List ℕ) → number_from n (map up s) ≡ decimal n s
unfolding number_from decimal
number_up n [] = refl
number_up n (d ∷ s) =
    let e : n * 10 + (d + 48 - 48) ≡ n * 10 + d = omega arith in
    ap (λ (x : ℕ). number_from x (map up s)) e ∙ number_up (n * 10 + d) s

-- a word of numbers 0 to 9 and one of zeros are a word of digits
bytes_up : (k t : ℕ) → all_small (low_bytes k t) ≡ true → low_bytes k (t + word_of (replicate k 48)) ≡ map up (low_bytes k t)
unfolding low_bytes word_of all_small
bytes_up zero t h = refl
bytes_up (suc k) t h =
    let r = leb-true (t % 256) 9 (and_left (leb (t % 256) 9) (all_small (low_bytes k (t / 256))) h) in
    let z = word_of (replicate k 48) in
    let x : (t + (48 + z * 256)) % 256 ≡ t % 256 + 48 = omega arith in
    let y : (t + (48 + z * 256)) / 256 ≡ t / 256 + z = omega arith in
    rw (x, y) (ap (λ (l : List ℕ). (t % 256 + 48) ∷ l) (bytes_up k (t / 256) (and_right (leb (t % 256) 9) (all_small (low_bytes k (t / 256))) h)))

-- a slash is a zero less one
slash-first : (t : ℕ) (s : List ℕ) → low_bytes 8 (t + 1) ≡ 48 ∷ s → low_bytes 8 t ≡ 47 ∷ s
unfolding low_bytes
slash-first t s e =
    let z : (t + 1) % 256 ≡ 48 = ap (λ (l : List ℕ). get_or l 0 0) e in
    let x : t % 256 ≡ 47 = omega arith in
    let y : t / 256 ≡ (t + 1) / 256 = omega arith in
    rw (x, y) (ap (λ (l : List ℕ). 47 ∷ drop 1 l) e)

-- the text of a word that holds a number's eight digits
module _ (t n : ℕ) (h : HoldsDigits n t) where
  pub word_text : low_bytes 8 (t + 0x3030303030303030) ≡ digits 8 n
  unfolding word_of
  word_text =
      let s = map up (low_bytes 8 t) in
      bytes_up 8 t h.small
      ∙ sym (number-written 8 n s (length-map (low_bytes 8 t) up ∙ length-bytes 8 t) (number_is s (digits_up (low_bytes 8 t) h.small) ∙ ap Some (number_up 0 (low_bytes 8 t) ∙ h.number)))

  pub slash-text : n < 10000000 → low_bytes 8 (t + 0x303030303030302F) ≡ 47 ∷ digits 7 n
  slash-text l =
      let c : t + 0x303030303030302F + 1 ≡ t + 0x3030303030303030 = omega arith in
      slash-first (t + 0x303030303030302F) (digits 7 n) (ap (low_bytes 8) c ∙ word_text ∙ zero_digit 7 n l)

-- digits of a width, and the last eight of them
pub last_eight : (w n : ℕ) → 8 ≤ w → digits (w - 8) (n / 100000000) ++ digits 8 (n % 100000000) ≡ digits w n
last_eight w n h =
    let e : w - 8 + 8 ≡ w = omega arith in
    ap (λ (t : List ℕ). digits (w - 8) (n / 100000000) ++ t) (digits_rest 8 n) ∙ sym (digits_split (w - 8) 8 n) ∙ ap (λ (j : ℕ). digits j n) e

-- the first eight bytes of a text, and then its last eight
pub first_and_last : (d : List ℕ) (at : ℕ) (s : List ℕ) {u v d₁ d₂ : List ℕ} {e₁ e₂ : ℕ} → 8 ≤ length s → length s ≤ 16 → at + length s ≤ length d → u ≡ take 8 s → v ≡ drop (length s - 8) s → Wrote d at u d₁ e₁ → Wrote d₁ (at + length s - 8) v d₂ e₂ → Wrote d at s d₂ e₂
first_and_last d at s h l m p q first last =
    let k : at + length s - 8 ≡ at + (length s - 8) = omega arith in
    let n : length (drop (length s - 8) s) ≡ length s - (length s - 8) = length-drop (length s - 8) s in
    record {
      bytes = rw (last.bytes, first.bytes, p, q, k) (overlapped d at 8 (length s - 8) s (omega arith) h m);
      past = last.past ∙ rw q (omega arith);
    }
