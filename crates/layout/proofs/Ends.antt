-- Laws of layouts that end with fields of one length each: such a layout is read in two parts, and its last fields stand at fixed
-- distances from the end. Assumes nothing.
use mathlib.Core.Path.{◌≡◌, sym, ap, subst, ◌∙◌}
use mathlib.Core.Bool.{true, false, ◌&&◌}
use mathlib.Core.List.{List, [], ◌∷◌, ◌++◌}
use Prim.Native.Nat.{ℕ, zero, suc, ◌+◌, ◌≤◌, ◌<◌}
use native.Mathlib.Nat.{not-suc-le-zero, le_of_suc-le-suc}
use native.Mathlib.Omega.{arith}
use lib.ListN.{length, take, drop, get_or, length-append, length-drop, take-append-drop, get_or-append}
use lib.Seq.{drop-drop, drop-append-le}
use borrow.Author.Tests.{eqb-true, eq-eqb}
use Rattle.laws.proofs.Tests.{and_left, and_right, same_test}
use Rattle.layout.specs.Fields.{FieldEntry, one_of, IsOneOf, length_at, starts, readable, offset}
use Rattle.layout.proofs.Fields.{starts_is, starts-fits, starts-tag, starts-length}
use Rattle.layout.proofs.ReturnTrip.{first, rest, nil, Stands, is_one_of}
use Rattle.layout.proofs.Fixed.{fixed, bytes_in, length_fixed}

-- a first field with more bytes behind it
module _ (s t : List ℕ) (h : 3 ≤ length s) where
  length_more : length_at (s ++ t) ≡ length_at s
  length_more = rw (get_or-append s t 0 1 (omega arith), get_or-append s t 0 2 (omega arith))

  first_more : get_or (s ++ t) 0 0 ≡ get_or s 0 0
  first_more = get_or-append s t 0 0 (omega arith)

starts_more : (e : FieldEntry) (s t : List ℕ) → starts e s ≡ true → starts e (s ++ t) ≡ true
starts_more e s t h =
    let w = starts-fits e s h in
    let l = length_more s t (omega arith) in
    let a = length-append s t in
    starts_is e (s ++ t) (omega arith) (first_more s t (omega arith) ∙ starts-tag e s h) ∙ ap (one_of e.lengths) l ∙ starts-length e s h

starts-before : (e : FieldEntry) (s t : List ℕ) → starts e (s ++ t) ≡ true → 3 + length_at (s ++ t) ≤ length s → starts e s ≡ true
starts-before e s t h w =
    let l = length_more s t (omega arith) in
    starts_is e s (omega arith) (sym (first_more s t (omega arith)) ∙ starts-tag e (s ++ t) h) ∙ ap (one_of e.lengths) (sym l) ∙ starts-length e (s ++ t) h

-- messages of two layouts, joined
pub readable_join : (hs ts : List FieldEntry) (s t : List ℕ) → readable hs s ≡ true → readable ts t ≡ true → readable (hs ++ ts) (s ++ t) ≡ true
unfolding readable
readable_join [] ts s t h k = subst (λ (x : List ℕ). readable ts (x ++ t) ≡ true) (nil s (eqb-true (length s) 0 h)) k
readable_join (e ∷ es) ts s t h k =
    let f = first e es s h in
    let w = starts-fits e s f in
    rw (starts_more e s t f, length_more s t (omega arith), drop-append-le (3 + length_at s) s t w) (readable_join es ts (drop (3 + length_at s) s) t (rest e es s h) k)

-- the last fields are within a readable message
pub ends_within : (hs : List FieldEntry) (fs : List (ℕ × ℕ)) (m : List ℕ) → readable (hs ++ fixed fs) m ≡ true → bytes_in fs ≤ length m
ends_within [] fs m h = omega (arith, length_fixed fs m h)
ends_within (e ∷ es) fs m h = omega (arith, ends_within es fs (drop (3 + length_at m) m) (rest e (es ++ fixed fs) m h), length-drop (3 + length_at m) m)

-- a message whose second part is as long as the last fields, parted
parts : (hs : List FieldEntry) (fs : List (ℕ × ℕ)) (s t : List ℕ) → length t ≡ bytes_in fs → readable (hs ++ fixed fs) (s ++ t) ≡ true → (readable hs s ≡ true) × (readable (fixed fs) t ≡ true)
unfolding readable
parts [] fs s t l h =
    let a = length_fixed fs (s ++ t) h in
    let b = length-append s t in
    let z : length s ≡ 0 = omega arith in
    (eq-eqb (length s) 0 z, subst (λ (x : List ℕ). readable (fixed fs) (x ++ t) ≡ true) (sym (nil s z)) h)
parts (e ∷ es) fs s t l h =
    let n = 3 + length_at (s ++ t) in
    let f = first e (es ++ fixed fs) (s ++ t) h in
    let g = rest e (es ++ fixed fs) (s ++ t) h in
    let k : n ≤ length s = omega (arith, ends_within es fs (drop n (s ++ t)) g, starts-fits e (s ++ t) f, length-append s t, length-drop n (s ++ t), l) in
    let q = length_more s t (omega arith) in
    let i : n ≡ 3 + length_at s = omega arith in
    let d : drop n (s ++ t) ≡ drop (3 + length_at s) s ++ t = drop-append-le n s t k ∙ ap (λ (j : ℕ). drop j s ++ t) i in
    let r = parts es fs (drop (3 + length_at s) s) t l (subst (λ (x : List ℕ). readable (es ++ fixed fs) x ≡ true) d g) in
    (rw (starts-before e s t f k) r.0, r.1)

-- readable in two parts: the last fields from their distance to the end on, the others before them
pub readable_split : (hs : List FieldEntry) (fs : List (ℕ × ℕ)) (m : List ℕ) (k : ℕ) → k + bytes_in fs ≡ length m → (readable (fixed fs) (drop k m) && readable hs (take k m)) ≡ readable (hs ++ fixed fs) m
readable_split hs fs m k e =
    let whole = take-append-drop k m in
    let back = readable (fixed fs) (drop k m) in
    let front = readable hs (take k m) in
    let l : length (drop k m) ≡ bytes_in fs = omega (arith, length-drop k m) in
    same_test (back && front) (readable (hs ++ fixed fs) m)
    (λ h. subst (λ (x : List ℕ). readable (hs ++ fixed fs) x ≡ true) whole (readable_join hs (fixed fs) (take k m) (drop k m) (and_right back front h) (and_left back front h)))
    (λ h. let p = parts hs fs (take k m) (drop k m) l (subst (λ (x : List ℕ). readable (hs ++ fixed fs) x ≡ true) (sym whole) h) in rw (p.1, p.0))

-- a message with less bytes is not readable
pub too_short : (hs : List FieldEntry) (fs : List (ℕ × ℕ)) (m : List ℕ) → length m < bytes_in fs → false ≡ readable (hs ++ fixed fs) m
too_short hs fs m l = same_test false (readable (hs ++ fixed fs) m) (λ h. absurd (let z : ◌≡◌ {A = ℕ} 0 1 = cc in omega arith)) (λ h. absurd (let z = ends_within hs fs m h in omega arith))

-- from field k on a readable message has the rest of the layout
pub rest_at : (es : List FieldEntry) (m : List ℕ) → readable es m ≡ true → (k : ℕ) → k ≤ length es → (offset k m ≤ length m) × (readable (drop k es) (drop (offset k m) m) ≡ true)
unfolding offset
rest_at es m h zero l = (omega arith, h)
rest_at [] m h (suc k) l = absurd (not-suc-le-zero l)
rest_at (e ∷ es) m h (suc k) l =
    let n = 3 + length_at m in
    let w = starts-fits e m (first e es m h) in
    let r = rest_at es (drop n m) (rest e es m h) k (le_of_suc-le-suc l) in
    (omega (arith, r.0, length-drop n m), rw (← drop-drop (offset k (drop n m)) n m) r.1)

-- where field k and those after it have one length each, it stands as far from the end as they are long
module _ (es : List FieldEntry) (m : List ℕ) (k : ℕ) (fs : List (ℕ × ℕ)) (h : readable es m ≡ true) (l : k ≤ length es) (e : drop k es ≡ fixed fs) where
  pub last-readable : readable (fixed fs) (drop (offset k m) m) ≡ true
  last-readable = subst (λ (x : List FieldEntry). readable x (drop (offset k m) m) ≡ true) e (rest_at es m h k l).1

  pub offset_from_end : offset k m + bytes_in fs ≡ length m
  offset_from_end = omega (arith, (rest_at es m h k l).0, length-drop (offset k m) m, length_fixed fs (drop (offset k m) m) last-readable)

-- the head of field k gives one of its entry's lengths
pub head-length : (es : List FieldEntry) (m : List ℕ) → readable es m ≡ true → (k : ℕ) (e : FieldEntry) → Stands es k e → IsOneOf e.lengths (length_at (drop (offset k m) m))
unfolding offset Stands
head-length [] m h k e p = absurd p
head-length (d ∷ es) m h zero e p = is_one_of e.lengths (length_at m) (ap (λ (x : FieldEntry). one_of x.lengths (length_at m)) (sym p) ∙ starts-length d m (first d es m h))
head-length (d ∷ es) m h (suc k) e p =
    let n = 3 + length_at m in
    rw (← drop-drop (offset k (drop n m)) n m) (head-length es (drop n m) (rest d es m h) k e p)

-- a field stands behind the one before it
pub offset_next : (k : ℕ) (m : List ℕ) → offset (suc k) m ≡ offset k m + 3 + length_at (drop (offset k m) m)
unfolding offset
offset_next zero m = omega arith
offset_next (suc k) m =
    let n = 3 + length_at m in
    let i = offset_next k (drop n m) in
    rw (← drop-drop (offset k (drop n m)) n m) (omega (arith, i))
