-- Laws of layouts whose fields have one length each. Assumes nothing.
use mathlib.Core.Path.{◌≡◌, refl}
use mathlib.Core.Logic.{◌≢◌}
use mathlib.Core.Bool.{Bool, true, false}
use mathlib.Core.List.{List, [], ◌∷◌}
use Prim.Native.Nat.{ℕ, ◌+◌}
use native.Mathlib.Omega.{arith}
use lib.ListN.{length, drop, length-drop}
use borrow.Author.Tests.{eqb-true, leb-true}
use Rattle.laws.proofs.Tests.{and_left, and_right}
use Rattle.layout.specs.Fields.{FieldEntry, length_at, starts, readable}
use Rattle.layout.proofs.Fields.{starts-length}
use Rattle.layout.proofs.ReturnTrip.{is_one_of}

-- the entry of a field with one length, from its tag and that length
abbrev single : ℕ × ℕ → FieldEntry
single f = record { tag = f.0; lengths = f.1 ∷ [] }

-- such a layout
unfoldable pub fixed : List (ℕ × ℕ) → List FieldEntry
fixed [] = []
fixed (f ∷ fs) = single f ∷ fixed fs

pub first-length : (f : ℕ × ℕ) (fs : List (ℕ × ℕ)) (m : List ℕ) → readable (fixed (f ∷ fs)) m ≡ true → length_at m ≡ f.1
unfolding readable fixed
first-length f fs m h =
    let e = single f in
    is_one_of e.lengths (length_at m) (starts-length e m (and_left (starts e m) (readable (fixed fs) (drop (3 + length_at m) m)) h))

-- how many bytes such fields take
unfoldable pub bytes_in : List (ℕ × ℕ) → ℕ
bytes_in [] = 0
bytes_in (f ∷ fs) = 3 + f.1 + bytes_in fs

pub length_fixed : (fs : List (ℕ × ℕ)) (m : List ℕ) → readable (fixed fs) m ≡ true → length m ≡ bytes_in fs
unfolding readable fixed bytes_in starts
length_fixed [] m h = eqb-true (length m) 0 h
length_fixed (f ∷ fs) m h =
    let e = single f in
    let rest = drop (3 + length_at m) m in
    let n = first-length f fs m h in
    let s = and_left (starts e m) (readable (fixed fs) rest) h in
    let w = leb-true (3 + length_at m) (length m) (and_left _ _ (and_left _ _ s)) in
    let r = length_fixed fs rest (and_right (starts e m) (readable (fixed fs) rest) h) in
    omega (arith, n, w, r, length-drop (3 + length_at m) m)

-- what is not as long is not readable
pub other_length : (fs : List (ℕ × ℕ)) (m : List ℕ) → length m ≢ bytes_in fs → false ≡ readable (fixed fs) m
other_length fs m h = go (readable (fixed fs) m) refl
  where
    go : (b : Bool) → readable (fixed fs) m ≡ b → false ≡ b
    go true e = absurd (h (length_fixed fs m e))
    go false e = refl
