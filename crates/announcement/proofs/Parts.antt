-- The characteristics by the places of their parts. Assumes nothing.
use mathlib.Core.Path.{◌≡◌, refl, sym, ap, ◌∙◌}
use mathlib.Core.Bool.{Bool, true, false, ◌&&◌, and_assoc, and-true, and-false}
use mathlib.Core.List.{List, [], ◌∷◌, map}
use Prim.Native.Nat.{ℕ, zero, suc, ◌+◌, ◌<◌}
use native.Mathlib.Omega.{arith}
use lib.Dec.{eqb}
use lib.ListN.{length, take, drop, get_or}
use borrow.Author.Tests.{eq-eqb}
use Rattle.std.proofs.Common.{Some, None}
use Rattle.digits.specs.Decimal.{Digits, all_digits, digits_of, is_number, number_in}
use Rattle.words.proofs.Parts.{length_part, is_digits, number_fits}
use Rattle.places.specs.Bids.{slash}
use Rattle.announcement.specs.Announcement.{widths, joined, numbers_in, characteristics_from, characteristics_of}
use Rattle.announcement.specs.Parts.{part, parts_of, all_numbers, slashes_stand}

-- of parts of these widths, from an index on: each has a number, slashes stand between them, and the text ends with the last
abbrev numbered : ℕ → List ℕ → List ℕ → Bool
numbered at [] s = true
numbered at (w ∷ ws) s = is_number (digits_of (take w (drop at s))) && numbered (at + w + 1) ws s

abbrev slashed : ℕ → List ℕ → List ℕ → Bool
slashed at [] s = true
slashed at (w ∷ []) s = true
slashed at (w ∷ v ∷ ws) s = eqb (get_or s (at + w) 0) slash && slashed (at + w + 1) (v ∷ ws) s

abbrev ended : ℕ → List ℕ → List ℕ → Bool
ended at [] s = eqb (length s) at
ended at (w ∷ []) s = eqb (length s) (at + w)
ended at (w ∷ v ∷ ws) s = ended (at + w + 1) (v ∷ ws) s

regroup : (a b c d e : Bool) → a && b && (c && d && e) ≡ a && c && (b && d) && e
regroup false b c d e = refl
regroup true false false d e = refl
regroup true false true d e = refl
regroup true true c d e = refl

joined_is : (at : ℕ) (ws s : List ℕ) → joined at ws s ≡ (numbered at ws s && slashed at ws s && ended at ws s)
unfolding joined
joined_is at [] s = refl
joined_is at (w ∷ []) s = rw (is_digits, and-true, and-true)
joined_is at (w ∷ v ∷ ws) s =
    let n = at + w + 1 in
    rw (is_digits, joined_is n (v ∷ ws) s) (regroup (all_digits (take w (drop at s))) (eqb (get_or s (at + w) 0) slash) (numbered n (v ∷ ws) s) (slashed n (v ∷ ws) s) (ended n (v ∷ ws) s))

pub joined_parts : (s : List ℕ) → length s ≡ 100 → joined 0 widths s ≡ (all_numbers (parts_of s) && slashes_stand s)
joined_parts s l = joined_is 0 widths s ∙ rw (eq-eqb (length s) 100 l) (simp (and_assoc, and-true))

-- the numbers, by the places of their parts
values_parts : (s : List ℕ) → map number_in (parts_of s) ≡ numbers_in 0 widths s
unfolding numbers_in
values_parts s = refl

-- a part without a number
missing : (ds : List Digits) (i : ℕ) → i < length ds → get_or ds i None ≡ None → all_numbers ds ≡ false
missing [] i l h = absurd (omega arith)
missing (d ∷ ds) zero l h = rw h
missing (d ∷ ds) (suc i) l h = rw (missing ds i (omega arith) h) (and-false (is_number d))

each_number : (ns : List ℕ) → all_numbers (map Some ns) ≡ true
each_number [] = refl
each_number (n ∷ ns) = each_number ns

values_of : (ns : List ℕ) → ns ≡ map number_in (map Some ns)
values_of [] = refl
values_of (n ∷ ns) = ap (λ (ms : List ℕ). n ∷ ms) (values_of ns)

-- the limit rate has eight digits
pub limit-fits : (s : List ℕ) (n : ℕ) → length s ≡ 100 → Some n ≡ part 92 100 s → n < 100000000
limit-fits s n l h =
    let fits = number_fits (take 8 (drop 92 s)) (omega (arith, length_part s 92 100 (omega arith) (omega arith))) in
    omega (arith, ap number_in h, fits)

module _ (s : List ℕ) (l : length s ≡ 100) where
  pub no_slashes : slashes_stand s ≡ false → None ≡ characteristics_of s
  unfolding characteristics_of
  no_slashes h =
      let f : joined 0 widths s ≡ false = joined_parts s l ∙ (rw h (and-false (all_numbers (parts_of s)))) in
      rw f

  pub part_missing : (i : ℕ) → i < 8 → get_or (parts_of s) i None ≡ None → None ≡ characteristics_of s
  unfolding characteristics_of
  part_missing i k h =
      let f : joined 0 widths s ≡ false = joined_parts s l ∙ (rw (missing (parts_of s) i k h)) in
      rw f

  pub all_there : (ns : List ℕ) → map Some ns ≡ parts_of s → slashes_stand s ≡ true → Some (characteristics_from ns) ≡ characteristics_of s
  unfolding characteristics_of
  all_there ns e h =
      let numbers : all_numbers (parts_of s) ≡ true = ap all_numbers (sym e) ∙ each_number ns in
      let values : ns ≡ numbers_in 0 widths s = values_of ns ∙ ap (map number_in) e ∙ values_parts s in
      let t : joined 0 widths s ≡ true = joined_parts s l ∙ (rw (numbers, h)) in
      rw (t, ← values)
