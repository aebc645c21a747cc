-- Laws of writes. Assumes nothing.
use mathlib.Core.Path.{◌≡◌, refl, sym, ap, ap₂, ◌∙◌}
use mathlib.Core.List.{List, [], ◌∷◌, ◌++◌, append_assoc}
use Prim.Native.Nat.{ℕ, ◌+◌, ◌-◌, ◌≤◌, ◌<◌}
use native.Mathlib.Nat.{add_assoc, add-zero, zero-add}
use native.Mathlib.Omega.{arith}
use native.Mathlib.Numerals.{add-one}
use lib.ListN.{length, take, drop, set, length-append, length-take, length-drop, take-append-drop}
use lib.Seq.{take_at, drop_at, take-take, drop-drop, take-append-le, drop-append-le, take-append-add, drop-append-add, length-take-le, set_split, append_snoc, paste-zero}
use Rattle.output.specs.Output.{overlay, Wrote}

-- one text after another
overlay_then : (d : List ℕ) (at : ℕ) (s t : List ℕ) → at ≤ length d → overlay (overlay d at s) (at + length s) t ≡ overlay d at (s ++ t)
unfolding overlay
overlay_then d at s t h =
    let n : length (take at d ++ s) ≡ at + length s = simp length-append (rw length-take-le refl) in
    rw (take_at (take at d ++ s) (drop (at + length s) d) (at + length s) n, ← drop-drop (length t) (at + length s), drop_at (take at d ++ s) (drop (at + length s) d) (at + length s) n, drop-drop)
    (simp (length-append, append_assoc, add_assoc))

-- writes chain: the second starts where the first ended
pub then : {d : List ℕ} {at : ℕ} {s t d₁ d₂ : List ℕ} {e₁ e₂ : ℕ} → at ≤ length d → Wrote d at s d₁ e₁ → Wrote d₁ e₁ t d₂ e₂ → Wrote d at (s ++ t) d₂ e₂
then {d} {at} {s} {t} h v w = record { bytes = rw (w.bytes, v.bytes, v.past) (overlay_then d at s t h); past = simp length-append (omega arith) }

-- the same write, its text said otherwise
pub said : {d : List ℕ} {at : ℕ} {s t d₁ : List ℕ} {e : ℕ} → s ≡ t → Wrote d at s d₁ e → Wrote d at t d₁ e
said p w = record { bytes = rw (← p) w.bytes; past = rw (← p) w.past }

-- nothing written yet
pub nothing : (d : List ℕ) (at : ℕ) → Wrote d at [] d at
unfolding overlay
nothing d at = record { bytes = paste-zero d at []; past = sym (add-zero at) }

-- a store writes one byte
pub one_byte : (d : List ℕ) (at b : ℕ) → at < length d → set d at b ≡ overlay d at (b ∷ [])
unfolding overlay
one_byte d at b h = rw (set_split d at b, add-one, append_snoc)

-- a write from the start
pub from_start : (d s : List ℕ) → overlay d 0 s ≡ s ++ drop (length s) d
unfolding overlay
from_start d s = simp zero-add

pub length-overlay : (d : List ℕ) (at : ℕ) (s : List ℕ) → at + length s ≤ length d → length (overlay d at s) ≡ length d
unfolding overlay
length-overlay d at s h = simp (length-append, length-take, length-drop) (omega arith)

-- a text written over the start of one that stands k places on leaves the other's end
pub covered : (d : List ℕ) (at k : ℕ) (s t : List ℕ) → k ≤ length s → length s ≤ k + length t → at + k + length t ≤ length d → overlay (overlay d (at + k) t) at s ≡ overlay d at (s ++ drop (length s - k) t)
unfolding overlay
covered d at k s t h l m =
    let a = take (at + k) d in
    let r = drop (at + k + length t) d in
    let u = drop (length s - k) t in
    let n : length a ≡ at + k = length-take-le (at + k) d (omega arith) in
    let o : length (a ++ t) ≡ at + k + length t = length-append a t ∙ omega arith in
    let x : take at (a ++ t ++ r) ≡ take at d = take-append-le at (a ++ t) r (omega arith) ∙ take-append-le at a t (omega arith) ∙ take-take at (at + k) d (omega arith) in
    let p : at + length s ≡ length a + (length s - k) = omega arith in
    let y : drop (at + length s) (a ++ t ++ r) ≡ u ++ r = drop-append-le (at + length s) (a ++ t) r (omega arith) ∙ ap (λ (z : List ℕ). z ++ r) (ap (λ (j : ℕ). drop j (a ++ t)) p ∙ drop-append-add a t (length s - k)) in
    let v : length u ≡ length t - (length s - k) = length-drop (length s - k) t in
    let z : length (s ++ u) ≡ k + length t = length-append s u ∙ omega arith in
    let e : at + k + length t ≡ at + length (s ++ u) = omega arith in
    ap₂ (λ (f g : List ℕ). f ++ s ++ g) x y
    ∙ sym (append_assoc (take at d ++ s) u r)
    ∙ ap₂ (λ (f : List ℕ) (j : ℕ). f ++ drop j d) (append_assoc (take at d) s u) e

-- the first n bytes of a text, and over their end all bytes after its first k
pub overlapped : (d : List ℕ) (at n k : ℕ) (s : List ℕ) → k ≤ n → n ≤ length s → at + length s ≤ length d → overlay (overlay d at (take n s)) (at + k) (drop k s) ≡ overlay d at s
unfolding overlay
overlapped d at n k s h l m =
    let a = take at d in
    let p = take n s in
    let q = drop k s in
    let r = drop (at + length p) d in
    let i : length a ≡ at = length-take-le at d (omega arith) in
    let j : length p ≡ n = length-take-le n s l in
    let o : length (a ++ p) ≡ at + n = length-append a p ∙ omega arith in
    let v : length q ≡ length s - k = length-drop k s in
    let x : take (at + k) (a ++ p ++ r) ≡ a ++ take k s = take-append-le (at + k) (a ++ p) r (omega arith) ∙ ap (λ (e : ℕ). take (e + k) (a ++ p)) (sym i) ∙ take-append-add a p k ∙ ap (λ (z : List ℕ). a ++ z) (take-take k n s h) in
    let e : at + k + length q ≡ length (a ++ p) + (length s - n) = omega arith in
    let f : at + length p + (length s - n) ≡ at + length s = omega arith in
    let y : drop (at + k + length q) (a ++ p ++ r) ≡ drop (at + length s) d = ap (λ (t : ℕ). drop t (a ++ p ++ r)) e ∙ drop-append-add (a ++ p) r (length s - n) ∙ drop-drop (length s - n) (at + length p) d ∙ ap (λ (t : ℕ). drop t d) f in
    ap₂ (λ (z w : List ℕ). z ++ q ++ w) x y
    ∙ ap (λ (z : List ℕ). z ++ drop (at + length s) d) (append_assoc a (take k s) q ∙ ap (λ (z : List ℕ). a ++ z) (take-append-drop k s))

-- a part of w bytes, lent and given back as s
pub part_back : (d : List ℕ) (at w : ℕ) (s : List ℕ) → length s ≡ w → take at d ++ (s ++ drop (at + w - at) (drop at d)) ≡ overlay d at s
unfolding overlay
part_back d at w s e =
    let q : at + w - at ≡ w = omega arith in
    rw (q, drop-drop, e) (sym (append_assoc (take at d) s (drop (at + w) d)))

pub length_part : (d : List ℕ) (at w : ℕ) → at + w ≤ length d → length (take (at + w - at) (drop at d)) ≡ w
length_part d at w h = simp (length-take, length-drop) (omega arith)
