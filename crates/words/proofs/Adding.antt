-- Eight digits in the bytes of a word, added by pairs, fours and eights. Assumes nothing.
use Rattle.std.proofs.Common.{◌≡◌, ℕ, suc, ◌+◌, ◌*◌, ◌/◌, ◌%◌, ◌<◌, ◌≤◌, true, leb, [], ◌∷◌, refl, ap, ◌∙◌, arith, lit<, leb-true}
use lib.Bits.{bit_and, and_block, and_mask}
use Rattle.laws.proofs.Tests.{and_left, and_right}
use Rattle.words.specs.Words.{low_bytes, all_small, decimal}

-- the mask's lowest field keeps the low half of the word's lowest field, and the rest of the mask meets the rest of the word
keep8 : (r o e m : ℕ) → e < 256 → o < 256 → bit_and (r * 65536 + (o * 256 + e)) (m * 65536 + 255) ≡ bit_and r m * 65536 + e
keep8 r o e m he ho =
    let q : (o * 256 + e) % 256 ≡ e = omega arith in
    and_block 16 r m (o * 256 + e) 255 (omega arith) (lit< tt) ∙ ap (λ (x : ℕ). bit_and r m * 65536 + x) (and_mask (o * 256 + e) 8 ∙ q)

keep16 : (r o e m : ℕ) → e < 65536 → o < 65536 → bit_and (r * 4294967296 + (o * 65536 + e)) (m * 4294967296 + 65535) ≡ bit_and r m * 4294967296 + e
keep16 r o e m he ho =
    let q : (o * 65536 + e) % 65536 ≡ e = omega arith in
    and_block 32 r m (o * 65536 + e) 65535 (omega arith) (lit< tt) ∙ ap (λ (x : ℕ). bit_and r m * 4294967296 + x) (and_mask (o * 65536 + e) 16 ∙ q)

-- the even bytes of eight, and the even halves of two fields of 32 bits
evens8 : (z0 z1 z2 z3 z4 z5 z6 z7 : ℕ) → z0 < 256 → z1 < 256 → z2 < 256 → z3 < 256 → z4 < 256 → z5 < 256 → z6 < 256 → z7 < 256
    → bit_and ((((0 * 65536 + (z7 * 256 + z6)) * 65536 + (z5 * 256 + z4)) * 65536 + (z3 * 256 + z2)) * 65536 + (z1 * 256 + z0)) 71777214294589695
    ≡ ((z6 * 65536 + z4) * 65536 + z2) * 65536 + z0
evens8 z0 z1 z2 z3 z4 z5 z6 z7 h0 h1 h2 h3 h4 h5 h6 h7 =
    keep8 (((0 * 65536 + (z7 * 256 + z6)) * 65536 + (z5 * 256 + z4)) * 65536 + (z3 * 256 + z2)) z1 z0 1095233372415 h0 h1
    ∙ ap (λ (x : ℕ). x * 65536 + z0) (keep8 ((0 * 65536 + (z7 * 256 + z6)) * 65536 + (z5 * 256 + z4)) z3 z2 16711935 h2 h3)
    ∙ ap (λ (x : ℕ). (x * 65536 + z2) * 65536 + z0) (keep8 (0 * 65536 + (z7 * 256 + z6)) z5 z4 255 h4 h5)
    ∙ ap (λ (x : ℕ). ((x * 65536 + z4) * 65536 + z2) * 65536 + z0) (keep8 0 z7 z6 0 h6 h7)
    ∙ omega arith

evens16 : (y0 y1 y2 y3 : ℕ) → y0 < 65536 → y1 < 65536 → y2 < 65536 → y3 < 65536
    → bit_and ((0 * 4294967296 + (y3 * 65536 + y2)) * 4294967296 + (y1 * 65536 + y0)) 281470681808895 ≡ y2 * 4294967296 + y0
evens16 y0 y1 y2 y3 h0 h1 h2 h3 =
    keep16 (0 * 4294967296 + (y3 * 65536 + y2)) y1 y0 65535 h0 h1 ∙ ap (λ (x : ℕ). x * 4294967296 + y0) (keep16 0 y3 y2 0 h2 h3) ∙ omega arith

-- the three steps of `value`
abbrev pub pairs_of : ℕ → ℕ
pairs_of t = bit_and (t * 10 + t / 256) 71777214294589695

abbrev pub fours_of : ℕ → ℕ
fours_of p = bit_and (p * 100 + p / 65536) 281470681808895

abbrev pub eight_of : ℕ → ℕ
eight_of f = bit_and (f * 10000 + f / 4294967296) 4294967295

-- a word of eight digits, and what each step makes of it
pub record Eight (t : ℕ) : Type 0 where
  pub d0 : ℕ
  pub d1 : ℕ
  pub d2 : ℕ
  pub d3 : ℕ
  pub d4 : ℕ
  pub d5 : ℕ
  pub d6 : ℕ
  pub d7 : ℕ
  pub h0 : d0 ≤ 9
  pub h1 : d1 ≤ 9
  pub h2 : d2 ≤ 9
  pub h3 : d3 ≤ 9
  pub h4 : d4 ≤ 9
  pub h5 : d5 ≤ 9
  pub h6 : d6 ≤ 9
  pub h7 : d7 ≤ 9
  pub bytes : low_bytes 8 t ≡ d0 ∷ d1 ∷ d2 ∷ d3 ∷ d4 ∷ d5 ∷ d6 ∷ d7 ∷ []
  pub is : t ≡ ((((((d7 * 256 + d6) * 256 + d5) * 256 + d4) * 256 + d3) * 256 + d2) * 256 + d1) * 256 + d0

abbrev P : {t : ℕ} → Eight t → ℕ
P w = (((w.d6 * 10 + w.d7) * 65536 + (w.d4 * 10 + w.d5)) * 65536 + (w.d2 * 10 + w.d3)) * 65536 + (w.d0 * 10 + w.d1)

abbrev F : {t : ℕ} → Eight t → ℕ
F w = ((w.d4 * 10 + w.d5) * 100 + (w.d6 * 10 + w.d7)) * 4294967296 + ((w.d0 * 10 + w.d1) * 100 + (w.d2 * 10 + w.d3))

pub pairs_are : (t : ℕ) (w : Eight t) → pairs_of t ≡ P w
pairs_are t w =
    let q : t / 256 ≡ (((((w.d7 * 256 + w.d6) * 256 + w.d5) * 256 + w.d4) * 256 + w.d3) * 256 + w.d2) * 256 + w.d1 = omega arith in
    let e : t * 10 + t / 256 ≡ (((0 * 65536 + ((w.d7 * 10) * 256 + (w.d6 * 10 + w.d7))) * 65536 + ((w.d5 * 10 + w.d6) * 256 + (w.d4 * 10 + w.d5))) * 65536 + ((w.d3 * 10 + w.d4) * 256 + (w.d2 * 10 + w.d3))) * 65536 + ((w.d1 * 10 + w.d2) * 256 + (w.d0 * 10 + w.d1)) = omega arith in
    ap (λ (x : ℕ). bit_and x 71777214294589695) e
    ∙ evens8 (w.d0 * 10 + w.d1) (w.d1 * 10 + w.d2) (w.d2 * 10 + w.d3) (w.d3 * 10 + w.d4) (w.d4 * 10 + w.d5) (w.d5 * 10 + w.d6) (w.d6 * 10 + w.d7) (w.d7 * 10)
    (omega arith) (omega arith) (omega arith) (omega arith) (omega arith) (omega arith) (omega arith) (omega arith)

pub fours_are : (t : ℕ) (w : Eight t) → fours_of (P w) ≡ F w
fours_are t w =
    let e : P w * 100 + P w / 65536 ≡ (0 * 4294967296 + (((w.d6 * 10 + w.d7) * 100) * 65536 + ((w.d4 * 10 + w.d5) * 100 + (w.d6 * 10 + w.d7)))) * 4294967296 + (((w.d2 * 10 + w.d3) * 100 + (w.d4 * 10 + w.d5)) * 65536 + ((w.d0 * 10 + w.d1) * 100 + (w.d2 * 10 + w.d3))) = omega arith in
    ap (λ (x : ℕ). bit_and x 281470681808895) e
    ∙ evens16 ((w.d0 * 10 + w.d1) * 100 + (w.d2 * 10 + w.d3)) ((w.d2 * 10 + w.d3) * 100 + (w.d4 * 10 + w.d5)) ((w.d4 * 10 + w.d5) * 100 + (w.d6 * 10 + w.d7)) ((w.d6 * 10 + w.d7) * 100)
    (omega arith) (omega arith) (omega arith) (omega arith)

two_fours : (a b : ℕ) → a ≤ 9999 → b ≤ 9999 → ((b * 4294967296 + a) * 10000 + (b * 4294967296 + a) / 4294967296) % 4294967296 ≡ a * 10000 + b
two_fours a b h l =
    let q : (b * 4294967296 + a) / 4294967296 ≡ b = omega arith in
    rw q (omega arith)

pub eight_is : (t : ℕ) (w : Eight t) → eight_of (F w) ≡ decimal 0 (w.d0 ∷ w.d1 ∷ w.d2 ∷ w.d3 ∷ w.d4 ∷ w.d5 ∷ w.d6 ∷ w.d7 ∷ [])
unfolding decimal
eight_is t w =
    let l : (w.d0 * 10 + w.d1) * 100 + (w.d2 * 10 + w.d3) ≤ 9999 = omega arith in
    let h : (w.d4 * 10 + w.d5) * 100 + (w.d6 * 10 + w.d7) ≤ 9999 = omega arith in
    and_mask (F w * 10000 + F w / 4294967296) 32
    ∙ two_fours ((w.d0 * 10 + w.d1) * 100 + (w.d2 * 10 + w.d3)) ((w.d4 * 10 + w.d5) * 100 + (w.d6 * 10 + w.d7)) l h
    ∙ omega arith

-- a word whose bytes are digits
first : (k t : ℕ) → all_small (low_bytes (suc k) t) ≡ true → t % 256 ≤ 9
unfolding all_small low_bytes
first k t h = leb-true (t % 256) 9 (and_left (leb (t % 256) 9) (all_small (low_bytes k (t / 256))) h)

next : (k t : ℕ) → all_small (low_bytes (suc k) t) ≡ true → all_small (low_bytes k (t / 256)) ≡ true
unfolding all_small low_bytes
next k t h = and_right (leb (t % 256) 9) (all_small (low_bytes k (t / 256))) h

pub eight_of_lem : (t : ℕ) → t < 18446744073709551616 → all_small (low_bytes 8 t) ≡ true → Eight t
unfolding low_bytes
eight_of_lem t b n0 =
    let t1 = t / 256 in
    let n1 = next 7 t n0 in
    let t2 = t1 / 256 in
    let n2 = next 6 t1 n1 in
    let t3 = t2 / 256 in
    let n3 = next 5 t2 n2 in
    let t4 = t3 / 256 in
    let n4 = next 4 t3 n3 in
    let t5 = t4 / 256 in
    let n5 = next 3 t4 n4 in
    let t6 = t5 / 256 in
    let n6 = next 2 t5 n5 in
    let t7 = t6 / 256 in
    let n7 = next 1 t6 n6 in
    record {
      d0 = t % 256;
      d1 = t1 % 256;
      d2 = t2 % 256;
      d3 = t3 % 256;
      d4 = t4 % 256;
      d5 = t5 % 256;
      d6 = t6 % 256;
      d7 = t7 % 256;
      h0 = first 7 t n0;
      h1 = first 6 t1 n1;
      h2 = first 5 t2 n2;
      h3 = first 4 t3 n3;
      h4 = first 3 t4 n4;
      h5 = first 2 t5 n5;
      h6 = first 1 t6 n6;
      h7 = first 0 t7 n7;
      bytes = refl;
      is = omega arith;
    }

pub eight_max : (t : ℕ) → Eight t → t ≤ 651061555542690057
eight_max t w =
    omega arith

pub eight_below : (t : ℕ) → t < 18446744073709551616 → all_small (low_bytes 8 t) ≡ true → decimal 0 (low_bytes 8 t) < 100000000
unfolding decimal
eight_below t b h =
    let w = eight_of_lem t b h in
    let a0 = w.h0 in
    let a1 = w.h1 in
    let a2 = w.h2 in
    let a3 = w.h3 in
    let a4 = w.h4 in
    let a5 = w.h5 in
    let a6 = w.h6 in
    let a7 = w.h7 in
    rw w.bytes (omega arith)
