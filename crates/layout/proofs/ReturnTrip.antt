-- Fields written one after the other are readable and each is read back; a readable message is its fields again. Assumes nothing.
use mathlib.Core.Path.{◌≡◌, refl, sym, ap, ap₂, subst, ◌∙◌}
use mathlib.Core.Logic.{inl, inr, ⊎_elim}
use mathlib.Core.Bool.{Bool, true, false, ◌&&◌, or-false, false≢true}
use mathlib.Core.List.{List, [], ◌∷◌, ◌++◌, map}
use Prim.Native.Nat.{ℕ, zero, suc, ◌+◌, ◌*◌, ◌/◌, ◌%◌, ◌≤◌, ◌<◌}
use native.Mathlib.Nat.{not-suc-le-zero, le_of_suc-le-suc}
use native.Mathlib.Omega.{arith}
use lib.Dec.{leb, eqb}
use lib.ListN.{length, take, drop, get_or, length-append, length-drop, take-append-drop}
use lib.Seq.{drop-drop, take_at, drop_at, length-take-le}
use borrow.Author.Tests.{le-leb, leb-true, eqb-true}
use Rattle.laws.proofs.Tests.{and_left, and_right, or_cases}
use Rattle.layout.specs.Fields.{FieldEntry, field, one_of, IsOneOf, at_most, length_at, starts, readable, offset, content, whole, encoded}
use Rattle.layout.proofs.Fields.{starts_is, starts-fits, starts-tag, starts-length}

-- what readable says of the first field and of the rest
module _ (e : FieldEntry) (es : List FieldEntry) (m : List ℕ) (h : readable (e ∷ es) m ≡ true) where
  pub first : starts e m ≡ true
  unfolding readable
  first = and_left (starts e m) (readable es (drop (3 + length_at m) m)) h

  pub rest : readable es (drop (3 + length_at m) m) ≡ true
  unfolding readable
  rest = and_right (starts e m) (readable es (drop (3 + length_at m) m)) h

-- each field of a readable message is whole
pub whole_of : (es : List FieldEntry) (m : List ℕ) → readable es m ≡ true → (k : ℕ) → k < length es → whole k m ≡ true
unfolding whole
whole_of [] m h k l = absurd (not-suc-le-zero l)
whole_of (e ∷ es) m h zero l = le-leb (3 + length_at m) (length m) (starts-fits e m (first e es m h))
whole_of (e ∷ es) m h (suc k) l =
    rw (le-leb (3 + length_at m) (length m) (starts-fits e m (first e es m h))) (whole_of es (drop (3 + length_at m) m) (rest e es m h) k (le_of_suc-le-suc l))

-- the contents of the first field, and of the fields after it
length-first : (m : List ℕ) → 3 + length_at m ≤ length m → length (content 0 m) ≡ length_at m
unfolding content offset
length-first m h = length-take-le (length_at m) (drop 3 m) (simp length-drop (omega arith))

content_suc : (k : ℕ) (m : List ℕ) → content (suc k) m ≡ content k (drop (3 + length_at m) m)
unfolding content offset
content_suc k m = rw (← drop-drop (offset k (drop (3 + length_at m) m)) (3 + length_at m))

-- an entry is that of field k
unfoldable pub Stands : List FieldEntry → ℕ → FieldEntry → Type 0
Stands [] k e = ⊥
Stands (d ∷ es) zero e = d ≡ e
Stands (d ∷ es) (suc k) e = Stands es k e

-- each field of a readable message has one of its entry's lengths
length-content : (es : List FieldEntry) (m : List ℕ) → readable es m ≡ true → (k : ℕ) (e : FieldEntry) → Stands es k e → one_of e.lengths (length (content k m)) ≡ true
unfolding Stands
length-content [] m h k e p = absurd p
length-content (d ∷ es) m h zero e p = rw (length-first m (starts-fits d m (first d es m h))) (ap (λ (x : FieldEntry). one_of x.lengths (length_at m)) (sym p) ∙ starts-length d m (first d es m h))
length-content (d ∷ es) m h (suc k) e p = rw (content_suc k m) (length-content es (drop (3 + length_at m) m) (rest d es m h) k e p)

pub is_one_of : (ls : List ℕ) (n : ℕ) → one_of ls n ≡ true → IsOneOf ls n
unfolding one_of
is_one_of [] n h = absurd (false≢true h)
is_one_of (l ∷ []) n h = eqb-true n l (sym (or-false (eqb n l)) ∙ h)
is_one_of (l ∷ k ∷ ls) n h = or_cases (eqb n l) (one_of (k ∷ ls) n) h (λ e. inl (eqb-true n l e)) (λ e. inr (is_one_of (k ∷ ls) n e))

pub at_most_lem : (n : ℕ) (ls : List ℕ) (k : ℕ) → at_most n ls ≡ true → IsOneOf ls k → k ≤ n
at_most_lem n [] k h o = absurd o
at_most_lem n (l ∷ []) k h o = let r = leb-true l n (and_left (leb l n) true h) in omega arith
at_most_lem n (l ∷ j ∷ ls) k h o =
    ⊎_elim (λ e. let r = leb-true l n (and_left (leb l n) (at_most n (j ∷ ls)) h) in omega arith) (λ e. at_most_lem n (j ∷ ls) k (and_right (leb l n) (at_most n (j ∷ ls)) h) e) o

stands_before : (es : List FieldEntry) (k : ℕ) (e : FieldEntry) → Stands es k e → k < length es
unfolding Stands
stands_before [] k e p = absurd p
stands_before (d ∷ es) zero e p = omega arith
stands_before (d ∷ es) (suc k) e p = let l = stands_before es k e p in omega arith

-- what is known of a field of a readable message, by its entry
module _ (es : List FieldEntry) (m : List ℕ) (h : readable es m ≡ true) (k : ℕ) (e : FieldEntry) (p : Stands es k e) where
  pub field-whole : whole k m ≡ true
  field-whole = whole_of es m h k (stands_before es k e p)

  pub field-length : IsOneOf e.lengths (length (content k m))
  field-length = is_one_of e.lengths (length (content k m)) (length-content es m h k e p)

  pub field-read : {s : List ℕ} → s ≡ content k m → (s ≡ content k m) × IsOneOf e.lengths (length s)
  field-read q = (q, subst (λ (t : List ℕ). IsOneOf e.lengths (length t)) (sym q) field-length)

-- all lengths of a layout are below 256, so that a head gives them with a high byte of zero
unfoldable pub narrow : List FieldEntry → Bool
narrow [] = true
narrow (e ∷ es) = at_most 255 e.lengths && narrow es

small : (e : FieldEntry) (es : List FieldEntry) (n : ℕ) → narrow (e ∷ es) ≡ true → one_of e.lengths n ≡ true → n ≤ 255
unfolding narrow
small e es n h o = at_most_lem 255 e.lengths n (and_left (at_most 255 e.lengths) (narrow es) h) (is_one_of e.lengths n o)

narrow_rest : (e : FieldEntry) (es : List FieldEntry) → narrow (e ∷ es) ≡ true → narrow es ≡ true
unfolding narrow
narrow_rest e es h = and_right (at_most 255 e.lengths) (narrow es) h

-- a layout permits these lengths, one for each entry
unfoldable pub permits : List FieldEntry → List ℕ → Bool
permits [] [] = true
permits [] (n ∷ ns) = false
permits (e ∷ es) [] = false
permits (e ∷ es) (n ∷ ns) = one_of e.lengths n && permits es ns

-- texts of such lengths: the first, and the rest
module _ (e : FieldEntry) (es : List FieldEntry) (t : List ℕ) (ts : List (List ℕ)) (p : permits (e ∷ es) (map length (t ∷ ts)) ≡ true) where
  first_permitted : one_of e.lengths (length t) ≡ true
  unfolding permits
  first_permitted = and_left (one_of e.lengths (length t)) (permits es (map length ts)) p

  rest_permitted : permits es (map length ts) ≡ true
  unfolding permits
  rest_permitted = and_right (one_of e.lengths (length t)) (permits es (map length ts)) p

-- a field written, with what follows it
length-head : (t : ℕ) (s r : List ℕ) → length s < 65536 → length_at (field t s ++ r) ≡ length s
unfolding field
length-head t s r h = omega arith

content-first : (t : ℕ) (s r : List ℕ) → length s < 65536 → content 0 (field t s ++ r) ≡ s
unfolding content offset
content-first t s r h = rw (length-head t s r h) (unfold field in take_at s r (length s) refl)

drop-first : (t : ℕ) (s r : List ℕ) → length s < 65536 → drop (3 + length_at (field t s ++ r)) (field t s ++ r) ≡ r
drop-first t s r h = rw (length-head t s r h, ← drop-drop (length s) 3) (unfold field in drop_at s r (length s) refl)

first-starts : (e : FieldEntry) (s r : List ℕ) → length s < 65536 → one_of e.lengths (length s) ≡ true → starts e (field e.tag s ++ r) ≡ true
first-starts e s r h p =
    let n = length-head e.tag s r h in
    starts_is e (field e.tag s ++ r) (rw n (unfold field in simp length-append (omega arith))) (unfold field in refl)
    ∙ rw n p

-- fields written are readable
pub readable-encoded : (es : List FieldEntry) (ts : List (List ℕ)) → narrow es ≡ true → permits es (map length ts) ≡ true → readable es (encoded es ts) ≡ true
unfolding encoded readable permits
readable-encoded [] [] w p = refl
readable-encoded [] (t ∷ ts) w p = absurd (false≢true p)
readable-encoded (e ∷ es) [] w p = absurd (false≢true p)
readable-encoded (e ∷ es) (t ∷ ts) w p =
    let q = first_permitted e es t ts p in
    let s = small e es (length t) w q in
    let r = encoded es ts in
    rw (first-starts e t r (omega arith) q, drop-first e.tag t r (omega arith)) (readable-encoded es ts (narrow_rest e es w) (rest_permitted e es t ts p))

-- and each is read back
pub content-encoded : (es : List FieldEntry) (ts : List (List ℕ)) → narrow es ≡ true → permits es (map length ts) ≡ true → (k : ℕ) → k < length es → content k (encoded es ts) ≡ get_or ts k []
unfolding encoded permits
content-encoded [] ts w p k l = absurd (not-suc-le-zero l)
content-encoded (e ∷ es) [] w p k l = absurd (false≢true p)
content-encoded (e ∷ es) (t ∷ ts) w p zero l =
    let s = small e es (length t) w (first_permitted e es t ts p) in
    content-first e.tag t (encoded es ts) (omega arith)
content-encoded (e ∷ es) (t ∷ ts) w p (suc k) l =
    let s = small e es (length t) w (first_permitted e es t ts p) in
    content_suc k (field e.tag t ++ encoded es ts)
    ∙ rw (drop-first e.tag t (encoded es ts) (omega arith)) (content-encoded es ts (narrow_rest e es w) (rest_permitted e es t ts p) k (le_of_suc-le-suc l))

-- the contents of n fields of m, from field k on
unfoldable pub contents_from : ℕ → ℕ → List ℕ → List (List ℕ)
contents_from k zero m = []
contents_from k (suc n) m = content k m ∷ contents_from (suc k) n m

contents_rest : (k n : ℕ) (m : List ℕ) → contents_from (suc k) n m ≡ contents_from k n (drop (3 + length_at m) m)
unfolding contents_from
contents_rest k zero m = refl
contents_rest k (suc n) m = ap₂ (λ (t : List ℕ) (ts : List (List ℕ)). t ∷ ts) (content_suc k m) (contents_rest (suc k) n m)

-- a first field, written again
again : (t : ℕ) (m : List ℕ) → 3 + length_at m ≤ length m → length_at m ≤ 255 → get_or m 0 0 ≡ t → field t (content 0 m) ++ drop (3 + length_at m) m ≡ m
unfolding content offset field
again t [] h s e = absurd (let z : ⊥ = omega arith in z)
again t (a ∷ []) h s e = absurd (let z : ⊥ = omega arith in z)
again t (a ∷ b ∷ []) h s e = absurd (let z : ⊥ = omega arith in z)
again t (a ∷ b ∷ c ∷ r) h s e =
    let n : length (take (b * 256 + c) r) ≡ b * 256 + c = length-take-le (b * 256 + c) r (omega arith) in
    let p : (b * 256 + c) / 256 % 256 ≡ b = omega arith in
    let q : (b * 256 + c) % 256 ≡ c = omega arith in
    rw (n, p, q, ← e, ← drop-drop (b * 256 + c) 3) (ap (λ (l : List ℕ). a ∷ b ∷ c ∷ l) (take-append-drop (b * 256 + c) r))

pub nil : (m : List ℕ) → length m ≡ 0 → [] ≡ m
nil [] h = refl
nil (x ∷ xs) h = absurd (let z : ⊥ = omega arith in z)

-- a readable message is the contents of its fields, written again
pub encoded_back : (es : List FieldEntry) (m : List ℕ) → narrow es ≡ true → readable es m ≡ true → encoded es (contents_from 0 (length es) m) ≡ m
unfolding encoded readable contents_from
encoded_back [] m w h = nil m (eqb-true (length m) 0 h)
encoded_back (e ∷ es) m w h =
    let s = first e es m h in
    rw (contents_rest 0 (length es) m, encoded_back es (drop (3 + length_at m) m) (narrow_rest e es w) (rest e es m h))
    (again e.tag m (starts-fits e m s) (small e es (length_at m) w (starts-length e m s)) (starts-tag e m s))

-- fields written are as long as their heads and contents
unfoldable pub sizes : List (List ℕ) → ℕ
sizes [] = 0
sizes (t ∷ ts) = 3 + length t + sizes ts

length_of_lem : (tag : ℕ) (t : List ℕ) → length (field tag t) ≡ 3 + length t
unfolding field
length_of_lem tag t = omega arith

pub length-encoded : (es : List FieldEntry) (ts : List (List ℕ)) → length ts ≡ length es → length (encoded es ts) ≡ sizes ts
unfolding encoded sizes
length-encoded [] [] l = refl
length-encoded [] (t ∷ ts) l = absurd (let z : ⊥ = omega arith in z)
length-encoded (e ∷ es) [] l = absurd (let z : ⊥ = omega arith in z)
length-encoded (e ∷ es) (t ∷ ts) l = simp (length-append, length_of_lem, length-encoded es ts (omega arith))
