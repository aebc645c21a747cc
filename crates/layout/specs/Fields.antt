-- The envelope (document 01, 'Envelope'): a message is fields one after the other. Assumes nothing.
use Rattle.std.specs.Prelude.{◌≡◌, ◌⊎◌, Bool, true, false, cond, ◌&&◌, ◌||◌, List, [], ◌∷◌, ◌++◌, ℕ, zero, suc, ◌+◌, ◌*◌, ◌/◌, ◌%◌, leb, eqb, length, take, drop, get_or}

-- 'A field is a one-byte tag, a two-byte length (high byte first) and that many bytes'
abbrev pub head : ℕ → ℕ → List ℕ
head tag n = tag ∷ n / 256 % 256 ∷ n % 256 ∷ []

unfoldable pub field : ℕ → List ℕ → List ℕ
field tag text = head tag (length text) ++ text

-- an entry of a layout: a field's tag and the lengths that its contents may have
pub record FieldEntry : Type 0 where
  pub tag : ℕ
  pub lengths : List ℕ

-- n is one of the numbers of a list
unfoldable pub one_of : List ℕ → ℕ → Bool
one_of [] n = false
one_of (l ∷ ls) n = eqb n l || one_of ls n

-- the same as a fact, which of a list of one number is an equation
abbrev pub IsOneOf : List ℕ → ℕ → Type 0
IsOneOf [] n = ⊥
IsOneOf (l ∷ []) n = n ≡ l
IsOneOf (l ∷ k ∷ ls) n = (n ≡ l) ⊎ IsOneOf (k ∷ ls) n

-- none of the numbers of a list is over n
abbrev pub at_most : ℕ → List ℕ → Bool
at_most n [] = true
at_most n (l ∷ ls) = leb l n && at_most n ls

-- the length that m's first head gives
abbrev pub length_at : List ℕ → ℕ
length_at m = get_or m 1 0 * 256 + get_or m 2 0

-- m starts with a whole field that has the entry's tag and one of its lengths
unfoldable pub starts : FieldEntry → List ℕ → Bool
starts e m = leb (3 + length_at m) (length m) && eqb (get_or m 0 0) e.tag && one_of e.lengths (length_at m)

-- 'Fields stand once each, in the order below, with exactly these lengths, and nothing follows'
unfoldable pub readable : List FieldEntry → List ℕ → Bool
readable [] m = eqb (length m) 0
readable (e ∷ es) m = starts e m && readable es (drop (3 + length_at m) m)

-- the index at which field k of m starts, counted from 0
unfoldable pub offset : ℕ → List ℕ → ℕ
offset zero m = 0
offset (suc k) m = 3 + length_at m + offset k (drop (3 + length_at m) m)

-- the contents of field k of m: as many bytes after its head as the head says
unfoldable pub content : ℕ → List ℕ → List ℕ
content k m = take (length_at (drop (offset k m) m)) (drop 3 (drop (offset k m) m))

-- the fields of m up to the k-th are within m
unfoldable pub whole : ℕ → List ℕ → Bool
whole zero m = leb (3 + length_at m) (length m)
whole (suc k) m = leb (3 + length_at m) (length m) && whole k (drop (3 + length_at m) m)

-- the message whose fields have a layout's tags and these contents
unfoldable pub encoded : List FieldEntry → List (List ℕ) → List ℕ
encoded [] texts = []
encoded (e ∷ es) [] = []
encoded (e ∷ es) (text ∷ texts) = field e.tag text ++ encoded es texts

-- a layout as the code has it: three bytes for each field, the second length the same where there is one only
abbrev pub entry : ℕ → ℕ → ℕ → FieldEntry
entry tag short long = record { tag = tag; lengths = cond (eqb short long) (short ∷ []) (short ∷ long ∷ []) }

unfoldable pub layout_of : List ℕ → List FieldEntry
layout_of [] = []
layout_of (t ∷ []) = []
layout_of (t ∷ a ∷ []) = []
layout_of (t ∷ a ∷ b ∷ rest) = entry t a b ∷ layout_of rest
