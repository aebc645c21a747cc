-- Laws of fields in a message, at an index of it. Assumes nothing.
use mathlib.Core.Path.{◌≡◌, refl, sym, ap, ◌∙◌}
use mathlib.Core.Bool.{Bool, true, false, cond, ◌&&◌, ◌||◌, and-true, and-false, or_self, or-false}
use mathlib.Core.List.{List, [], ◌∷◌, ◌++◌}
use Prim.Native.Nat.{ℕ, zero, suc, ◌+◌, ◌*◌, ◌-◌, ◌≤◌, ◌<◌}
use native.Mathlib.Nat.{add-zero, not-suc-le-zero}
use native.Mathlib.Omega.{arith}
use lib.Dec.{leb, eqb}
use lib.ListN.{length, take, drop, get_or, length-drop}
use lib.Seq.{drop-drop, get_or-drop}
use borrow.Author.Tests.{le-leb, lt-leb, eq-eqb, ne_eqb, leb-true, eqb-true}
use Rattle.laws.proofs.Tests.{and_left, and_right, same_test}
use Rattle.layout.specs.Fields.{FieldEntry, entry, one_of, length_at, starts, readable, layout_of, offset, content, whole}

-- the length that the head at an index gives
pub length_at_lem : (m : List ℕ) (at : ℕ) → get_or m (at + 1) 0 * 256 + get_or m (at + 2) 0 ≡ length_at (drop at m)
length_at_lem m at = simp get_or-drop

-- the lengths that an entry of the code may have
pub one_of_entry : (tag short long n : ℕ) → one_of (entry tag short long).lengths n ≡ (eqb n short || eqb n long)
unfolding one_of
one_of_entry tag short long n = go (eqb short long) refl
  where
    go : (t : Bool) → eqb short long ≡ t → one_of (cond (eqb short long) (short ∷ []) (short ∷ long ∷ [])) n ≡ (eqb n short || eqb n long)
    go true e = rw (e, ← eqb-true short long e) (or-false (eqb n short) ∙ sym (or_self (eqb n short)))
    go false e = rw e (ap (λ (b : Bool). eqb n short || b) (or-false (eqb n long)))

-- what starts says
starts_short : (e : FieldEntry) (m : List ℕ) → length m < 3 + length_at m → starts e m ≡ false
unfolding starts
starts_short e m h = rw (lt-leb (3 + length_at m) (length m) h)

starts_other : (e : FieldEntry) (m : List ℕ) → (get_or m 0 0 ≡ e.tag → ⊥) → starts e m ≡ false
unfolding starts
starts_other e m h = rw (ne_eqb (get_or m 0 0) e.tag h, and-false)

pub starts_is : (e : FieldEntry) (m : List ℕ) → 3 + length_at m ≤ length m → get_or m 0 0 ≡ e.tag → starts e m ≡ one_of e.lengths (length_at m)
unfolding starts
starts_is e m h t = rw (le-leb (3 + length_at m) (length m) h, eq-eqb (get_or m 0 0) e.tag t)

module _ (e : FieldEntry) (m : List ℕ) (h : starts e m ≡ true) where
  tagged : (leb (3 + length_at m) (length m) && eqb (get_or m 0 0) e.tag) ≡ true
  unfolding starts
  tagged = and_left (leb (3 + length_at m) (length m) && eqb (get_or m 0 0) e.tag) (one_of e.lengths (length_at m)) h

  pub starts-fits : 3 + length_at m ≤ length m
  starts-fits = leb-true (3 + length_at m) (length m) (and_left (leb (3 + length_at m) (length m)) (eqb (get_or m 0 0) e.tag) tagged)

  pub starts-tag : get_or m 0 0 ≡ e.tag
  starts-tag = eqb-true (get_or m 0 0) e.tag (and_right (leb (3 + length_at m) (length m)) (eqb (get_or m 0 0) e.tag) tagged)

  pub starts-length : one_of e.lengths (length_at m) ≡ true
  unfolding starts
  starts-length = and_right (leb (3 + length_at m) (length m) && eqb (get_or m 0 0) e.tag) (one_of e.lengths (length_at m)) h

-- the same at an index of m
pub short_at : (e : FieldEntry) (m : List ℕ) (at : ℕ) → length m - at < 3 + length_at (drop at m) → false ≡ starts e (drop at m)
short_at e m at h = sym (starts_short e (drop at m) (rw length-drop h))

pub first_byte : (m : List ℕ) (at : ℕ) → get_or (drop at m) 0 0 ≡ get_or m at 0
first_byte m at = get_or-drop at m 0 0 ∙ ap (λ (k : ℕ). get_or m k 0) (add-zero at)

pub other_at : (e : FieldEntry) (m : List ℕ) (at : ℕ) → (get_or m at 0 ≡ e.tag → ⊥) → false ≡ starts e (drop at m)
other_at e m at h = sym (starts_other e (drop at m) (λ t. h (sym (first_byte m at) ∙ t)))

-- by its length, where the tag is right
module _ (tag short long : ℕ) (m : List ℕ) (at n : ℕ) (e : n ≡ length_at (drop at m)) (t : get_or m at 0 ≡ tag) where
  right_tag : eqb (get_or (drop at m) 0 0) tag ≡ true
  right_tag = eq-eqb (get_or (drop at m) 0 0) tag (first_byte m at ∙ t)

  its_length : one_of (entry tag short long).lengths (length_at (drop at m)) ≡ (eqb n short || eqb n long)
  its_length = ap (one_of (entry tag short long).lengths) (sym e) ∙ one_of_entry tag short long n

  pub is_at : (eqb n short || eqb n long) ≡ true → leb (3 + n) (length m - at) ≡ starts (entry tag short long) (drop at m)
  unfolding starts
  is_at h = rw (right_tag, its_length ∙ h, and-true, and-true, length-drop, ← e)

  pub wrong_length : (eqb n short || eqb n long) ≡ false → false ≡ starts (entry tag short long) (drop at m)
  unfolding starts
  wrong_length h = rw (its_length ∙ h, and-false)

pub fits_at : (e : FieldEntry) (m : List ℕ) (at : ℕ) → starts e (drop at m) ≡ true → 3 + length_at (drop at m) ≤ length m - at
fits_at e m at h = rw length-drop at (starts-fits e (drop at m) h)

-- the layout in the code's bytes: three of them are an entry, and fewer are none
pub layout_more : (f rest : List ℕ) → length f ≡ 3 → layout_of (f ++ rest) ≡ entry (get_or f 0 0) (get_or f 1 0) (get_or f 2 0) ∷ layout_of rest
unfolding layout_of
layout_more [] rest h = absurd (omega arith)
layout_more (t ∷ []) rest h = absurd (omega arith)
layout_more (t ∷ a ∷ []) rest h = absurd (omega arith)
layout_more (t ∷ a ∷ b ∷ []) rest h = refl
layout_more (t ∷ a ∷ b ∷ x ∷ f) rest h = absurd (omega arith)

pub layout_end : (l : List ℕ) → length l < 3 → layout_of l ≡ []
unfolding layout_of
layout_end [] h = refl
layout_end (t ∷ []) h = refl
layout_end (t ∷ a ∷ []) h = refl
layout_end (t ∷ a ∷ b ∷ l) h = absurd (omega arith)

-- a turn of the loop over the layout
pub readable_no : (e : FieldEntry) (es : List FieldEntry) (m : List ℕ) → starts e m ≡ false → readable (e ∷ es) m ≡ false
unfolding readable
readable_no e es m h = rw h

pub readable_more : (e : FieldEntry) (es : List FieldEntry) (m : List ℕ) (at n : ℕ) → n ≡ length_at (drop at m) → starts e (drop at m) ≡ true → readable (e ∷ es) (drop at m) ≡ readable es (drop (at + (3 + n)) m)
unfolding readable
readable_more e es m at n l h = rw (h, l, drop-drop)

pub readable_end : (m : List ℕ) (at : ℕ) → at ≤ length m → eqb at (length m) ≡ readable [] (drop at m)
unfolding readable
readable_end m at h =
    rw length-drop
    (same_test (eqb at (length m)) (eqb (length m - at) 0) (λ e. let q : at ≡ length m = eqb-true at (length m) e in eq-eqb (length m - at) 0 (omega arith)) (λ e. let q : length m - at ≡ 0 = eqb-true (length m - at) 0 e in eq-eqb at (length m) (omega arith)))

-- a turn of the loop over the fields before field k
whole-fits : (j : ℕ) (m : List ℕ) → whole j m ≡ true → 3 + length_at m ≤ length m
unfolding whole
whole-fits zero m h = leb-true (3 + length_at m) (length m) h
whole-fits (suc j) m h = leb-true (3 + length_at m) (length m) (and_left (leb (3 + length_at m) (length m)) (whole j (drop (3 + length_at m) m)) h)

pub whole_at : (j : ℕ) (m : List ℕ) (at : ℕ) → whole j (drop at m) ≡ true → 3 + length_at (drop at m) ≤ length m - at
whole_at j m at h = rw length-drop at (whole-fits j (drop at m) h)

pub whole_more : (j : ℕ) (m : List ℕ) (at n : ℕ) → 0 < j → n ≡ length_at (drop at m) → whole j (drop at m) ≡ true → whole (j - 1) (drop (at + (3 + n)) m) ≡ true
unfolding whole
whole_more zero m at n p e h = absurd (not-suc-le-zero p)
whole_more (suc j) m at n p e h =
    let q : suc j - 1 ≡ j = omega arith in
    rw (q, e) (rw drop-drop at (and_right (leb (3 + length_at (drop at m)) (length (drop at m))) (whole j (drop (3 + length_at (drop at m)) (drop at m))) h))

pub offset_more : (j : ℕ) (m : List ℕ) (at n : ℕ) → 0 < j → n ≡ length_at (drop at m) → at + offset j (drop at m) ≡ at + (3 + n) + offset (j - 1) (drop (at + (3 + n)) m)
unfolding offset
offset_more zero m at n p e = absurd (not-suc-le-zero p)
offset_more (suc j) m at n p e =
    let q : suc j - 1 ≡ j = omega arith in
    let i : at + (3 + length_at (drop at m)) ≡ at + (3 + n) = omega arith in
    let d : drop (3 + length_at (drop at m)) (drop at m) ≡ drop (at + (3 + n)) m = drop-drop (3 + length_at (drop at m)) at m ∙ ap (λ (j : ℕ). drop j m) i in
    rw (q, d) (omega arith)

-- field k is within m
whole-offset : (k : ℕ) (m : List ℕ) → whole k m ≡ true → offset k m + 3 + length_at (drop (offset k m) m) ≤ length m
unfolding offset whole
whole-offset zero m h = leb-true (3 + length_at m) (length m) h
whole-offset (suc k) m h =
    let n = 3 + length_at m in
    let f = leb-true n (length m) (and_left (leb n (length m)) (whole k (drop n m)) h) in
    let r = whole-offset k (drop n m) (and_right (leb n (length m)) (whole k (drop n m)) h) in
    rw (← drop-drop (offset k (drop n m)) n) (let l = length-drop n m in omega arith)

pub offset-within : (k : ℕ) (m : List ℕ) (at : ℕ) → whole k m ≡ true → at ≡ offset k m → at + 3 + length_at (drop at m) ≤ length m
offset-within k m at h e = rw e (whole-offset k m h)

pub content_at : (k : ℕ) (m : List ℕ) (at n : ℕ) → at ≡ offset k m → n ≡ length_at (drop at m) → take (at + 3 + n - (at + 3)) (drop (at + 3) m) ≡ content k m
unfolding content
content_at k m at n o e =
    let q : at + 3 + n - (at + 3) ≡ n = omega arith in
    rw (q, e, drop-drop, ← o)
