-- A part of a list in which another part is stored, before it, past it or in it. Assumes nothing.
use mathlib.Core.Path.{◌≡◌, refl, ap, ◌∙◌}
use mathlib.Core.List.{List, [], ◌∷◌, map}
use Prim.Native.Nat.{ℕ, zero, suc, ◌+◌, ◌-◌, ◌≤◌, ◌<◌}
use native.Mathlib.Omega.{arith}
use lib.ListN.{length, take, drop, get_or, set, length-take, length-drop}
use lib.Seq.{sets, get_or-take, get_or-drop, take-set-le, take-set-lt, drop-set-lt, drop-set-add}
use Rattle.buffer.specs.Words.{part}

pub part_length : (ws : List ℕ) (at n : ℕ) → at + n ≤ length ws → length (part at n ws) ≡ n
part_length ws at n h = length-take n (drop at ws) ∙ (let d = length-drop at ws in omega (arith, d))

-- a word of a part
pub word_at : (ws : List ℕ) (from n i : ℕ) → i < n → get_or (part from n ws) i 0 ≡ get_or ws (from + i) 0
word_at ws from n i h = get_or-take n (drop from ws) i 0 h ∙ get_or-drop from ws i 0

pub set_before : (ws : List ℕ) (at n i v : ℕ) → i < at → part at n (set ws i v) ≡ part at n ws
set_before ws at n i v h = ap (take n) (drop-set-lt at ws i v h)

-- stored past the first n
drop_past : (ws : List ℕ) (at i v : ℕ) → at ≤ i → drop at (set ws i v) ≡ set (drop at ws) (i - at) v
drop_past ws at i v h =
    let e : i ≡ at + (i - at) = omega arith in
    ap (λ (k : ℕ). drop at (set ws k v)) e ∙ drop-set-add at ws (i - at) v

pub set_past : (ws : List ℕ) (at n i v : ℕ) → at + n ≤ i → part at n (set ws i v) ≡ part at n ws
set_past ws at n i v h = ap (take n) (drop_past ws at i v (omega arith)) ∙ take-set-le n (drop at ws) (i - at) v (omega arith)

pub set_in : (ws : List ℕ) (at n i v : ℕ) → i < n → part at n (set ws (at + i) v) ≡ set (part at n ws) i v
set_in ws at n i v h = ap (take n) (drop-set-add at ws i v) ∙ take-set-lt n (drop at ws) i v h

pub sets_before : (ws : List ℕ) (at n i : ℕ) (vs : List ℕ) → i + length vs ≤ at → part at n (sets ws i vs) ≡ part at n ws
sets_before ws at n i [] h = refl
sets_before ws at n i (v ∷ vs) h = sets_before (set ws i v) at n (suc i) vs (omega arith) ∙ set_before ws at n i v (omega arith)

pub sets_past : (ws : List ℕ) (at n i : ℕ) (vs : List ℕ) → at + n ≤ i → part at n (sets ws i vs) ≡ part at n ws
sets_past ws at n i [] h = refl
sets_past ws at n i (v ∷ vs) h = sets_past (set ws i v) at n (suc i) vs (omega arith) ∙ set_past ws at n i v h

pub sets_in : (ws : List ℕ) (at n i : ℕ) (vs : List ℕ) → i + length vs ≤ n → part at n (sets ws (at + i) vs) ≡ sets (part at n ws) i vs
sets_in ws at n i [] h = refl
sets_in ws at n i (v ∷ vs) h =
    let e : suc (at + i) ≡ at + suc i = omega arith in
    ap (λ (k : ℕ). part at n (sets (set ws (at + i) v) k vs)) e
    ∙ sets_in (set ws (at + i) v) at n (suc i) vs (omega arith)
    ∙ ap (λ (l : List ℕ). sets l (suc i) vs) (set_in ws at n i v (omega arith))

-- what is stored, seen through a function
module _ {A B : Type 0} (f : A → B) where
  pub map-set : (l : List A) (i : ℕ) (v : A) → map f (set l i v) ≡ set (map f l) i (f v)
  map-set [] i v = refl
  map-set (x ∷ l) zero v = refl
  map-set (x ∷ l) (suc i) v = ap (λ (y : List B). f x ∷ y) (map-set l i v)

  pub map_sets : (l : List A) (i : ℕ) (vs : List A) → map f (sets l i vs) ≡ sets (map f l) i (map f vs)
  map_sets l i [] = refl
  map_sets l i (v ∷ vs) = map_sets (set l i v) (suc i) vs ∙ ap (λ (y : List B). sets y (suc i) (map f vs)) (map-set l i v)
