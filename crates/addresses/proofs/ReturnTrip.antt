-- The return trip of an address, both ways and for both forms. Assumes nothing.
use mathlib.Core.Path.{◌≡◌, refl, sym, ap, ap₂, subst, ◌∙◌}
use mathlib.Core.Bool.{Bool, true, false, ◌&&◌, false≢true}
use mathlib.Core.List.{List, [], ◌∷◌, ◌++◌, append_assoc}
use Prim.Native.Nat.{ℕ, ◌≤◌}
use native.Mathlib.Omega.{arith}
use lib.Dec.{eqb, ltb}
use lib.ListN.{length, take, drop, get_or, length-drop, take-append-drop, drop_of_length-le}
use lib.Seq.{drop-drop, drop-cons, length-take-le}
use borrow.Author.Tests.{ltb-true, lt-ltb, eqb-true}
use Rattle.laws.proofs.Tests.{and_left, and_right}
use Rattle.digits.specs.Decimal.{all_digits, number_of, digits_of, digits}
use Rattle.digits.proofs.Reading.{number_is, number_below}
use Rattle.digits.proofs.Writing.{length_digits, written-digits, written-number, read-written, number-written}
use Rattle.addresses.specs.declared.Address.{Address}
use Rattle.addresses.specs.declared.Address.TheVariants.{Malformed, Code, Branch}
use Rattle.addresses.specs.Addresses.{code_address, is_branch, branch_address, address_of, address_text, address_length, is_address, address_fits}
use Rattle.addresses.specs.ReturnTrip.{WrittenReadsBack, ReadWritesBack}

-- the long form of two texts of five
abbrev long : List ℕ → List ℕ → ℕ → ℕ → List ℕ
long p q x y = p ++ 47 ∷ q ++ 47 ∷ x ∷ y ∷ []

five : (p : List ℕ) → length p ≡ 5 → p ≡ get_or p 0 0 ∷ get_or p 1 0 ∷ get_or p 2 0 ∷ get_or p 3 0 ∷ get_or p 4 0 ∷ []
five [] h = absurd (let z : ⊥ = omega arith in z)
five (a ∷ []) h = absurd (let z : ⊥ = omega arith in z)
five (a ∷ b ∷ []) h = absurd (let z : ⊥ = omega arith in z)
five (a ∷ b ∷ c ∷ []) h = absurd (let z : ⊥ = omega arith in z)
five (a ∷ b ∷ c ∷ d ∷ []) h = absurd (let z : ⊥ = omega arith in z)
five (a ∷ b ∷ c ∷ d ∷ e ∷ []) h = refl
five (a ∷ b ∷ c ∷ d ∷ e ∷ f ∷ p) h = absurd (let z : ⊥ = omega arith in z)

-- its parts
abbrev Parted : List ℕ → List ℕ → ℕ → ℕ → Type 0
Parted p q x y =
    (length (long p q x y) ≡ 14)
    × (take 5 (long p q x y) ≡ p)
    × (get_or (long p q x y) 5 0 ≡ 47)
    × (take 5 (drop 6 (long p q x y)) ≡ q)
    × (get_or (long p q x y) 11 0 ≡ 47)
    × (get_or (long p q x y) 12 0 ≡ x)
    × (get_or (long p q x y) 13 0 ≡ y)

parted : (p q : List ℕ) (x y : ℕ) → length p ≡ 5 → length q ≡ 5 → Parted p q x y
parted p q x y l k =
    subst (λ (s : List ℕ). Parted s q x y) (sym (five p l))
    (subst (λ (s : List ℕ). Parted (get_or p 0 0 ∷ get_or p 1 0 ∷ get_or p 2 0 ∷ get_or p 3 0 ∷ get_or p 4 0 ∷ []) s x y) (sym (five q k)) (refl, refl, refl, refl, refl, refl, refl))

-- an address that fits, written, reads back
pub address_back : WrittenReadsBack
unfolding address_text address_of
address_back Malformed h = absurd (false≢true h)
address_back (Code n) h = rw (length_digits 5 n, read-written 5 n (ltb-true n 100000 h))
address_back (Branch c b x y) h =
    let p = digits 5 c in
    let q = digits 5 b in
    let s = parted p q x y (length_digits 5 c) (length_digits 5 b) in
    let i = ltb-true c 100000 (and_left (ltb c 100000) (ltb b 100000) h) in
    let j = ltb-true b 100000 (and_right (ltb c 100000) (ltb b 100000) h) in
    rw s.0
    (unfold branch_address in unfold is_branch in rw (s.1, s.2, s.3, s.4, s.5, s.6, written-digits 5 c, written-digits 5 b, written-number 5 c i, written-number 5 b j))

pub length_address : (a : Address) → length (address_text a) ≡ address_length a
unfolding address_text
length_address Malformed = refl
length_address (Code n) = length_digits 5 n
length_address (Branch c b x y) = (parted (digits 5 c) (digits 5 b) x y (length_digits 5 c) (length_digits 5 b)).0

-- fourteen bytes with slashes in place are a long form of their parts
module _ (s : List ℕ) (l : length s ≡ 14) (h : is_branch s ≡ true) where
  abbrev a : Bool
  a = all_digits (take 5 s)

  abbrev b : Bool
  b = eqb (get_or s 5 0) 47

  abbrev c : Bool
  c = all_digits (take 5 (drop 6 s))

  abbrev d : Bool
  d = eqb (get_or s 11 0) 47

  three : a && b && c ≡ true
  unfolding is_branch
  three = and_left (a && b && c) d h

  code_digits_lem : a ≡ true
  code_digits_lem = and_left a b (and_left (a && b) c three)

  branch_digits : c ≡ true
  branch_digits = and_right (a && b) c three

  first-slash : get_or s 5 0 ≡ 47
  first-slash = eqb-true (get_or s 5 0) 47 (and_right a b (and_left (a && b) c three))

  second_slash : get_or s 11 0 ≡ 47
  unfolding is_branch
  second_slash = eqb-true (get_or s 11 0) 47 (and_right (a && b && c) d h)

  long_again : long (take 5 s) (take 5 (drop 6 s)) (get_or s 12 0) (get_or s 13 0) ≡ s
  long_again =
      let e14 : drop 14 s ≡ [] = drop_of_length-le s {i = 14} (omega arith) in
      let e11 : drop 11 s ≡ 47 ∷ get_or s 12 0 ∷ get_or s 13 0 ∷ [] = drop-cons s 11 0 (omega arith) ∙ ap₂ (λ (x : ℕ) (r : List ℕ). x ∷ r) second_slash (drop-cons s 12 0 (omega arith) ∙ ap (λ (r : List ℕ). get_or s 12 0 ∷ r) (drop-cons s 13 0 (omega arith) ∙ ap (λ (r : List ℕ). get_or s 13 0 ∷ r) e14)) in
      let e6 : drop 6 s ≡ take 5 (drop 6 s) ++ drop 11 s = sym (take-append-drop 5 (drop 6 s)) ∙ ap (λ (r : List ℕ). take 5 (drop 6 s) ++ r) (drop-drop 5 6 s) in
      let e5 : drop 5 s ≡ 47 ∷ drop 6 s = drop-cons s 5 0 (omega arith) ∙ ap (λ (x : ℕ). x ∷ drop 6 s) first-slash in
      append_assoc (take 5 s) (47 ∷ take 5 (drop 6 s)) (47 ∷ get_or s 12 0 ∷ get_or s 13 0 ∷ [])
      ∙ ap (λ (r : List ℕ). take 5 s ++ 47 ∷ r) (ap (λ (r : List ℕ). take 5 (drop 6 s) ++ r) (sym e11) ∙ sym e6)
      ∙ ap (λ (r : List ℕ). take 5 s ++ r) (sym e5)
      ∙ take-append-drop 5 s

  length-code : length (take 5 s) ≡ 5
  length-code = length-take-le 5 s (omega arith)

  length_branch : length (take 5 (drop 6 s)) ≡ 5
  length_branch = length-take-le 5 (drop 6 s) (omega (arith, length-drop 6 s))

  branch_again : address_text (branch_address s) ≡ s
  unfolding branch_address address_text
  branch_again =
      rw (h, number-written 5 (number_of (take 5 s)) (take 5 s) length-code (number_is (take 5 s) code_digits_lem), number-written 5 (number_of (take 5 (drop 6 s))) (take 5 (drop 6 s)) length_branch (number_is (take 5 (drop 6 s)) branch_digits))
      long_again

  branch_fits : address_fits (branch_address s) ≡ true
  unfolding branch_address
  branch_fits = rw (h, lt-ltb (number_of (take 5 s)) 100000 (number_below 5 (take 5 s) length-code code_digits_lem), lt-ltb (number_of (take 5 (drop 6 s))) 100000 (number_below 5 (take 5 (drop 6 s)) length_branch branch_digits))

-- what the two forms are
abbrev Back : List ℕ → Address → Type 0
Back s a = is_address a ≡ true → (address_text a ≡ s) × (address_fits a ≡ true)

branch_back : (s : List ℕ) → length s ≡ 14 → Back s (branch_address s)
branch_back s l h = go (is_branch s) refl
  where
    go : (t : Bool) → is_branch s ≡ t → (address_text (branch_address s) ≡ s) × (address_fits (branch_address s) ≡ true)
    go true e = (branch_again s l e, branch_fits s l e)
    go false e = absurd (false≢true (unfold branch_address in rw e at h))

code_back : (s : List ℕ) → length s ≡ 5 → (d : Bool) → all_digits s ≡ d → Back s (code_address (digits_of s))
unfolding address_text
code_back s l true e h =
    rw (number_is s e) (number-written 5 (number_of s) s l (number_is s e), lt-ltb (number_of s) 100000 (number_below 5 s l e))
code_back s l false e h = absurd (false≢true (unfold digits_of in rw e at h))

-- an address that was read, written, is the same bytes, and it fits
pub address_written : ReadWritesBack
unfolding address_of
address_written s h = go (eqb (length s) 5) refl (eqb (length s) 14) refl
  where
    go : (t : Bool) → eqb (length s) 5 ≡ t → (u : Bool) → eqb (length s) 14 ≡ u → (address_text (address_of s) ≡ s) × (address_fits (address_of s) ≡ true)
    go true e u f = rw e (code_back s (eqb-true (length s) 5 e) (all_digits s) refl (rw e at h))
    go false e true f = rw (e, f) (branch_back s (eqb-true (length s) 14 f) (rw (e, f) at h))
    go false e false f = absurd (false≢true (rw (e, f) at h))

pub at_most_14 : (a : Address) → address_length a ≤ 14
at_most_14 Malformed = omega arith
at_most_14 (Code n) = omega arith
at_most_14 (Branch c b x y) = omega arith
