-- Laws of reading an address at an index of a message. Assumes nothing.
use mathlib.Core.Path.{◌≡◌, refl, sym, ap, ◌∙◌}
use mathlib.Core.Bool.{Bool, true, false, ◌&&◌}
use mathlib.Core.List.{List, [], ◌∷◌}
use Prim.Native.Nat.{ℕ, zero, suc, ◌+◌, ◌-◌, ◌≤◌, ◌<◌}
use native.Mathlib.Omega.{arith}
use lib.Dec.{eqb, lit<}
use lib.ListN.{length, take, drop, get_or, length-drop}
use lib.Seq.{take-take, drop-drop, get_or-take, get_or-drop, length-take-le}
use borrow.Author.Tests.{eq-eqb}
use Rattle.laws.proofs.Tests.{and_left, and_right}
use Rattle.digits.specs.Decimal.{Digits}
use Rattle.std.proofs.Common.{Some, None}
use Rattle.digits.specs.Decimal.{all_digits, number_of, digits_of, is_number, number_in}
use Rattle.addresses.specs.declared.Address.TheVariants.{Malformed, Branch}
use Rattle.addresses.specs.Addresses.{code_address, is_branch, branch_address, address_of, code_digits}

-- a part of the first n of a list
pub part_of : (k w n : ℕ) (x : List ℕ) → k + w ≤ n → take w (drop k (take n x)) ≡ take w (drop k x)
part_of zero w n x h = take-take w n x (omega arith)
part_of (suc k) w zero x h = absurd (let z : ⊥ = omega arith in z)
part_of (suc k) w (suc n) [] h = refl
part_of (suc k) w (suc n) (a ∷ x) h = part_of k w n x (omega arith)

-- digits tested, and their number
pub tests_digits : (s : List ℕ) → is_number (digits_of s) ≡ all_digits s
unfolding digits_of
tests_digits s = go (all_digits s) refl
  where
    go : (t : Bool) → all_digits s ≡ t → is_number (digits_of s) ≡ all_digits s
    go true e = rw e
    go false e = rw e

pub number-held : (s : List ℕ) → all_digits s ≡ true → number_in (digits_of s) ≡ number_of s
unfolding digits_of
number-held s h = rw h

-- five bytes between two indices
pub five_bytes : (m : List ℕ) (from to : ℕ) (d : Digits) → to ≡ from + 5 → d ≡ digits_of (take (to - from) (drop from m)) → d ≡ digits_of (take 5 (drop from m))
five_bytes m from to d h e = let k : to - from ≡ 5 = omega arith in e ∙ ap (λ (j : ℕ). digits_of (take j (drop from m))) k

-- the test that the code makes of a long form
abbrev pub formed : Digits → ℕ → Digits → ℕ → Bool
formed d x e y = is_number d && eqb x 47 && is_number e && eqb y 47

-- the same, where the two numbers are known or one of them is not there
pub formed-both : (c b x y : ℕ) → formed (Some c) x (Some b) y ≡ (eqb x 47 && eqb y 47)
formed-both c b x y = go (eqb x 47)
  where
    go : (t : Bool) → (true && t && true && eqb y 47) ≡ (t && eqb y 47)
    go true = refl
    go false = refl

pub formed-second : (c x y : ℕ) → formed (Some c) x None y ≡ false
formed-second c x y = go (eqb x 47)
  where
    go : (t : Bool) → (true && t && false && eqb y 47) ≡ false
    go true = refl
    go false = refl

four : (a b c d : Bool) → a && b && c && d ≡ true → (a ≡ true) × (c ≡ true)
four a b c d h =
    let three = and_left (a && b && c) d h in
    (and_left a b (and_left (a && b) c three), and_right (a && b) c three)

module _ (m : List ℕ) (from : ℕ) (d e : Digits) (p : d ≡ digits_of (take 5 (drop from m))) (q : e ≡ digits_of (take 5 (drop (from + 6) m))) where
  byte : (k : ℕ) → k < 14 → get_or (take 14 (drop from m)) k 0 ≡ get_or m (from + k) 0
  byte k l = get_or-take 14 (drop from m) k 0 l ∙ get_or-drop from m k 0

  code : take 5 (take 14 (drop from m)) ≡ take 5 (drop from m)
  code = take-take 5 14 (drop from m) (omega arith)

  branch : take 5 (drop 6 (take 14 (drop from m))) ≡ take 5 (drop (from + 6) m)
  branch = part_of 6 5 14 (drop from m) (omega arith) ∙ ap (take 5) (drop-drop 6 from m)

  test : is_branch (take 14 (drop from m)) ≡ formed d (get_or m (from + 5) 0) e (get_or m (from + 11) 0)
  unfolding is_branch
  test = rw (code, branch, byte 5 (lit< tt), byte 11 (lit< tt), p, q, tests_digits (take 5 (drop from m)), tests_digits (take 5 (drop (from + 6) m)))

  pub branch_formed : formed d (get_or m (from + 5) 0) e (get_or m (from + 11) 0) ≡ true → Branch (number_in d) (number_in e) (get_or m (from + 12) 0) (get_or m (from + 13) 0) ≡ branch_address (take 14 (drop from m))
  unfolding branch_address
  branch_formed h =
      let t = four (is_number d) (eqb (get_or m (from + 5) 0) 47) (is_number e) (eqb (get_or m (from + 11) 0) 47) h in
      let a : all_digits (take 5 (drop from m)) ≡ true = sym (ap is_number p ∙ tests_digits (take 5 (drop from m))) ∙ t.0 in
      let b : all_digits (take 5 (drop (from + 6) m)) ≡ true = sym (ap is_number q ∙ tests_digits (take 5 (drop (from + 6) m))) ∙ t.1 in
      rw (test ∙ h, code, branch, byte 12 (lit< tt), byte 13 (lit< tt), ap number_in p ∙ number-held (take 5 (drop from m)) a, ap number_in q ∙ number-held (take 5 (drop (from + 6) m)) b)

  pub branch_malformed : formed d (get_or m (from + 5) 0) e (get_or m (from + 11) 0) ≡ false → Malformed ≡ branch_address (take 14 (drop from m))
  unfolding branch_address
  branch_malformed h = rw (test ∙ h)

-- the form by its length
module _ (m : List ℕ) (from w : ℕ) where
  pub short_is : w ≡ 5 → from + w ≤ length m → code_address (digits_of (take 5 (drop from m))) ≡ address_of (take w (drop from m))
  unfolding address_of
  short_is e l = rw (e, length-take-le 5 (drop from m) (omega (arith, length-drop from m)))

  pub long_is : w ≡ 14 → from + w ≤ length m → branch_address (take 14 (drop from m)) ≡ address_of (take w (drop from m))
  unfolding address_of
  long_is e l = rw (e, length-take-le 14 (drop from m) (omega (arith, length-drop from m)))

-- five bytes are read as a short form
pub five_is : (s : List ℕ) → length s ≡ 5 → code_address (digits_of s) ≡ address_of s
unfolding address_of
five_is s e = rw (eq-eqb (length s) 5 e)

-- and their code is what they hold
held_by_code : (d : Digits) → code_digits (code_address d) ≡ d
held_by_code None = refl
held_by_code (Some n) = refl

pub code_of_five : (s : List ℕ) → length s ≡ 5 → digits_of s ≡ code_digits (address_of s)
code_of_five s e = sym (ap code_digits (sym (five_is s e)) ∙ held_by_code (digits_of s))
