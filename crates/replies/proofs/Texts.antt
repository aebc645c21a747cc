-- Laws of the texts of errors and of the replies. Assumes nothing.
use mathlib.Core.Path.{◌≡◌, refl, sym, ap, ◌∙◌}
use mathlib.Core.Bool.{Bool, true, false, cond, ◌&&◌}
use mathlib.Core.List.{List, [], ◌∷◌, ◌++◌, map, flatten, append_assoc, append-nil}
use Prim.Native.Nat.{ℕ, zero, suc, ◌+◌, ◌*◌, ◌-◌, ◌≤◌, ◌<◌}
use native.Mathlib.Nat.{add_comm, mul-suc, mul-zero, not-suc-le-zero, le_of_suc-le-suc}
use native.Mathlib.Numerals.{add-one}
use native.Mathlib.Omega.{arith}
use lib.Dec.{T, eqb, eqb→eq}
use lib.ListN.{length, take, drop, get_or, set, length-append, length-map}
use lib.Seq.{take_at, drop_at, drop-drop, length-take-le, take-suc, take-suc-set, take-take}
use borrow.Author.Tests.{le-leb, lt-leb}
use Rattle.digits.specs.Decimal.{digits}
use Rattle.digits.proofs.Writing.{length_digits}
use Rattle.layout.specs.Fields.{head, field, one_of}
use Rattle.texts.specs.Texts.{ascii}
use Rattle.rules.specs.Receiving.{Error}
use Rattle.rules.specs.Replies.{confirmation, error_text, error_texts, shown}
use Rattle.errors.specs.Listed.{idc_table, idc_in, named}
use Rattle.replies.specs.Texts.{row_in, slashed, origin}

-- sender and CRO written together
pub confirmation_parts : (type sender cro last : List ℕ) (time : ℕ) → field 0x01 type ++ field 0x04 (ascii "01000") ++ origin sender cro ++ field 0x60 (digits 6 time) ++ field 0x70 last ≡ confirmation type sender cro time last
unfolding confirmation
confirmation_parts type sender cro last time =
    ap (λ (x : List ℕ). x ++ field 0x60 (digits 6 time) ++ field 0x70 last) (sym (append_assoc (field 0x01 type ++ field 0x04 (ascii "01000")) (field 0x05 sender) (field 0x22 cro)))

-- all lists of a table are w long: a test that antt computes
abbrev all_wide : ℕ → List (List ℕ) → Bool
all_wide w [] = true
all_wide w (x ∷ xs) = eqb (length x) w && all_wide w xs

left : (a b : Bool) → T (a && b) → T a
left true b t = tt
left false b t = t

right : (a b : Bool) → T (a && b) → T b
right true b t = t
right false b t = absurd t

-- entry k of a table whose entries stand one after the other, each w long
chunk : (w : ℕ) (es : List (List ℕ)) (d : List ℕ) → T (all_wide w es) → (k : ℕ) → k < length es → take w (drop (w * k) (flatten es)) ≡ get_or es k d
unfolding flatten
chunk w [] d t k h = absurd (not-suc-le-zero h)
chunk w (x ∷ xs) d t zero h = rw mul-zero (take_at x (flatten xs) w (eqb→eq (length x) w (left (eqb (length x) w) (all_wide w xs) t)))
chunk w (x ∷ xs) d t (suc k) h =
    let e : length x ≡ w = eqb→eq (length x) w (left (eqb (length x) w) (all_wide w xs) t) in
    rw (mul-suc, add_comm, ← drop-drop (w * k) w, drop_at x (flatten xs) w e) (chunk w xs d (right (eqb (length x) w) (all_wide w xs) t) k (le_of_suc-le-suc h))

-- the IDCs of a table, and after them the one of any other code
unfoldable pub idcs : List (List ℕ × List ℕ) → List (List ℕ)
idcs [] = ascii "999" ∷ []
idcs (row ∷ rows) = row.1 ∷ idcs rows

chosen : (b : Bool) (t : List ℕ) (ts : List (List ℕ)) (k : ℕ) (u : List ℕ) → get_or ts k [] ≡ u → get_or (t ∷ ts) (cond b 0 (suc k)) [] ≡ cond b t u
chosen true t ts k u h = refl
chosen false t ts k u h = h

row_idc : (rows : List (List ℕ × List ℕ)) (code : ℕ) → get_or (idcs rows) (row_in rows code) [] ≡ idc_in rows code
unfolding idcs row_in idc_in
row_idc [] code = refl
row_idc (row ∷ rows) code = chosen (one_of row.0 code) row.1 (idcs rows) (row_in rows code) (idc_in rows code) (row_idc rows code)

-- the code's IDC of a row
pub idc_at : (code : ℕ) (k : ℕ) → k ≡ row_in idc_table code → k < 11 → take (3 * k + 3 - 3 * k) (drop (3 * k) (flatten (idcs idc_table))) ≡ idc_in idc_table code
unfolding idcs idc_table
idc_at code k e h =
    let n : 3 * k + 3 - 3 * k ≡ 3 = omega arith in
    let c : take 3 (drop (3 * k) (flatten (idcs idc_table))) ≡ get_or (idcs idc_table) k [] = chunk 3 (idcs idc_table) [] tt k h in
    rw (n, c, e) (row_idc idc_table code)

chosen_length : (b : Bool) (t u : List ℕ) → length t ≡ 3 → length u ≡ 3 → length (cond b t u) ≡ 3
chosen_length true t u h k = h
chosen_length false t u h k = k

length_in : (rows : List (List ℕ × List ℕ)) (code : ℕ) → T (all_wide 3 (idcs rows)) → length (idc_in rows code) ≡ 3
unfolding idcs idc_in
length_in [] code t = refl
length_in (row ∷ rows) code t =
    let e : length row.1 ≡ 3 = eqb→eq (length row.1) 3 (left (eqb (length row.1) 3) (all_wide 3 (idcs rows)) t) in
    chosen_length (one_of row.0 code) row.1 (idc_in rows code) e (length_in rows code (right (eqb (length row.1) 3) (all_wide 3 (idcs rows)) t))

pub length_idc : (code : ℕ) → length (idc_in idc_table code) ≡ 3
unfolding idc_table idcs
length_idc code = length_in idc_table code tt

length_text_lem : (code : ℕ) → length (error_text (named code)) ≡ 9
unfolding error_text named
length_text_lem code = simp (length-append, length_idc, length_digits)

-- one error more
slashed_snoc : (codes : List ℕ) (code : ℕ) → slashed (codes ++ (code ∷ [])) ≡ slashed codes ++ (ascii "/" ++ error_text (named code))
unfolding slashed
slashed_snoc [] code = append-nil (ascii "/" ++ error_text (named code))
slashed_snoc (x ∷ xs) code = rw (slashed_snoc xs code) (sym (append_assoc (ascii "/" ++ error_text (named x)) (slashed xs) (ascii "/" ++ error_text (named code))))

length-slashed : (codes : List ℕ) → length (slashed codes) ≡ 10 * length codes
unfolding slashed
length-slashed [] = refl
length-slashed (x ∷ xs) = simp (length-append, length_text_lem, length-slashed xs) (omega arith)

pub slashed_more : (codes : List ℕ) (k : ℕ) → k < length codes → slashed (take k codes) ++ ascii "/" ++ error_text (named (get_or codes k 0)) ≡ slashed (take (k + 1) codes)
slashed_more codes k l =
    rw (add-one, take-suc codes k 0, slashed_snoc) (append_assoc (slashed (take k codes)) (ascii "/") (error_text (named (get_or codes k 0))))

-- the first error's text and the others are the rules' texts
first_rest : (x : ℕ) (xs : List ℕ) → error_text (named x) ++ slashed xs ≡ error_texts (map named (x ∷ xs))
unfolding slashed error_texts
first_rest x [] = append-nil (error_text (named x))
first_rest x (y ∷ ys) = rw (← first_rest y ys) (sym (append_assoc (error_text (named x)) (ascii "/") (error_text (named y) ++ slashed ys)))

pub texts_are : (codes : List ℕ) → 0 < length codes → error_text (named (get_or codes 0 0)) ++ slashed (drop 1 codes) ≡ error_texts (map named codes)
texts_are [] l = absurd (not-suc-le-zero l)
texts_are (x ∷ xs) l = first_rest x xs

length-texts : (codes : List ℕ) → 0 < length codes → length (error_texts (map named codes)) + 1 ≡ 10 * length codes
length-texts [] h = absurd (not-suc-le-zero h)
length-texts (x ∷ xs) h = rw (← first_rest x xs) (simp (length-append, length_text_lem, length-slashed xs) (omega arith))

-- the head and the contents of the errors' field, n being how many there are
pub errors-field : (x codes : List ℕ) (n : ℕ) → length codes ≡ n → 0 < n → x ++ head 0x98 (10 * n - 1) ++ error_texts (map named codes) ≡ x ++ field 0x98 (error_texts (map named codes))
unfolding field
errors-field x codes n e h =
    let l : length (error_texts (map named codes)) + 1 ≡ 10 * length codes = length-texts codes (omega arith) in
    let m : 10 * n - 1 ≡ length (error_texts (map named codes)) = omega arith in
    rw m (append_assoc x (head 0x98 (length (error_texts (map named codes)))) (error_texts (map named codes)))

pub shown-few : (es : List Error) → length es ≤ 5 → shown es ≡ es
unfolding shown
shown-few es h = rw (le-leb (length es) 5 h)

map-take : (k : ℕ) (codes : List ℕ) → take k (map named codes) ≡ map named (take k codes)
map-take zero codes = refl
map-take (suc k) [] = refl
map-take (suc k) (x ∷ xs) = ap (λ (es : List Error). named x ∷ es) (map-take k xs)

map_snoc : (codes : List ℕ) (code : ℕ) → map named (codes ++ (code ∷ [])) ≡ map named codes ++ (named code ∷ [])
map_snoc [] code = refl
map_snoc (x ∷ xs) code = ap (λ (es : List Error). named x ∷ es) (map_snoc xs code)

-- the code 999 in the fifth place
pub shown_many : (codes : List ℕ) (n : ℕ) → 5 < n → n ≤ length codes → map named (take 5 (set codes 4 999)) ≡ shown (map named (take n codes))
unfolding shown named idc_in idc_table one_of
shown_many codes n h l =
    let k : length (map named (take n codes)) ≡ n = length-map (take n codes) named ∙ length-take-le n codes l in
    rw (lt-leb (length (map named (take n codes))) 5 (omega arith), take-suc-set codes 4 999 (omega arith), map_snoc, map-take 4 (take n codes), take-take 4 n codes (omega arith)) refl
