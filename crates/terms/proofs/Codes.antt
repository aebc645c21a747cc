-- Laws of admitted codes. Assumes nothing.
use mathlib.Core.Path.{◌≡◌, refl, sym, ap, ◌∙◌}
use mathlib.Core.Bool.{Bool, true, false, not, ◌&&◌, ◌||◌, and_assoc, and-true, not-not}
use mathlib.Core.List.{List, [], ◌∷◌}
use Prim.Native.Nat.{ℕ, suc, ◌+◌, ◌≤◌, ◌<◌}
use native.Mathlib.Numerals.{add-one}
use native.Mathlib.Omega.{arith}
use lib.Dec.{leb, ltb, eqb}
use lib.ListN.{length, drop, get_or, drop_of_length-le}
use lib.Seq.{drop-cons}
use borrow.Author.Tests.{leb-true, ltb-true, ltb-false, le-leb, lt-leb, lt-ltb}
use Rattle.laws.proofs.Tests.{same_test}
use Rattle.rules.specs.Opening.{any, rising, bad_codes}
use Rattle.terms.specs.Viewed.{rises_from}

-- the loop: one more code, and the end
pub rise_more : (ok : Bool) (least : ℕ) (s : List ℕ) (i : ℕ) → i < length s → ((ok && (leb least (get_or s i 0) && leb (get_or s i 0) 99999)) && rises_from (get_or s i 0 + 1) (drop (i + 1) s)) ≡ (ok && rises_from least (drop i s))
unfolding rises_from
rise_more ok least s i h =
    let x = leb least (get_or s i 0) in
    let y = leb (get_or s i 0) 99999 in
    let z = rises_from (get_or s i 0 + 1) (drop (suc i) s) in
    rw (drop-cons s i 0 h, add-one i) (and_assoc ok (x && y) z)

pub rise_end : (ok : Bool) (least : ℕ) (s : List ℕ) (i : ℕ) → length s ≤ i → (ok && rises_from least (drop i s)) ≡ ok
unfolding rises_from
rise_end ok least s i h = rw (drop_of_length-le s h) (and-true ok)

-- the same test, said otherwise
not_over : (c : ℕ) → leb c 99999 ≡ not (ltb 99999 c)
not_over c = go (ltb 99999 c) refl
  where
    go : (t : Bool) → ltb 99999 c ≡ t → leb c 99999 ≡ not t
    go true e = let h = ltb-true 99999 c e in lt-leb c 99999 h
    go false e = let h = ltb-false 99999 c e in le-leb c 99999 h

next_above : (c d : ℕ) → leb (c + 1) d ≡ ltb c d
next_above c d = same_test (leb (c + 1) d) (ltb c d) (λ e. let h = leb-true (c + 1) d e in lt-ltb c d (omega arith)) (λ e. let h = ltb-true c d e in le-leb (c + 1) d (omega arith))

regroup : (n y u r a : Bool) → n && y && (u && (r && not a)) ≡ n && (u && r && not (not y || a))
regroup false y u r a = refl
regroup true false false r a = refl
regroup true false true false a = refl
regroup true false true true a = refl
regroup true true u r a = sym (and_assoc u r (not a))

rises_is : (n c : ℕ) (codes : List ℕ) → rises_from n (c ∷ codes) ≡ (leb n c && (rising (c ∷ codes) && not (any (ltb 99999) (c ∷ codes))))
unfolding rises_from rising any
rises_is n c [] = rw not_over (go (leb n c) (ltb 99999 c))
  where
    go : (x y : Bool) → x && not y && true ≡ x && (true && not (y || false))
    go false y = refl
    go true false = refl
    go true true = refl
rises_is n c (d ∷ codes) =
    ap (λ (t : Bool). leb n c && leb c 99999 && t) (rises_is (c + 1) d codes)
    ∙ ap (λ (t : Bool). leb n c && leb c 99999 && (t && (rising (d ∷ codes) && not (any (ltb 99999) (d ∷ codes))))) (next_above c d)
    ∙ regroup (leb n c) (leb c 99999) (ltb c d) (rising (d ∷ codes)) (any (ltb 99999) (d ∷ codes))
    ∙ ap (λ (t : Bool). leb n c && (ltb c d && rising (d ∷ codes) && not (t || any (ltb 99999) (d ∷ codes)))) (ap not (not_over c) ∙ not-not (ltb 99999 c))

-- what the code tests is condition 7
pub codes_bad : (codes : List ℕ) → (eqb (length codes) 0 || ltb 64 (length codes) || not (rises_from 0 codes)) ≡ bad_codes codes
unfolding bad_codes
codes_bad [] = refl
codes_bad (c ∷ codes) =
    let least : leb 0 c ≡ true = le-leb 0 c (omega arith) in
    ap (λ (t : Bool). eqb (length (c ∷ codes)) 0 || ltb 64 (length (c ∷ codes)) || not t)
    (rises_is 0 c codes ∙ ap (λ (t : Bool). t && (rising (c ∷ codes) && not (any (ltb 99999) (c ∷ codes)))) least)
    ∙ go (eqb (length (c ∷ codes)) 0 || ltb 64 (length (c ∷ codes))) (rising (c ∷ codes)) (any (ltb 99999) (c ∷ codes))
  where
    go : (x y z : Bool) → x || not (y && not z) ≡ x || not y || z
    go true y z = refl
    go false true true = refl
    go false true false = refl
    go false false z = refl
