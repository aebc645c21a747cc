-- Laws of an array that the numbers of a 6G1 are stored in. Assumes nothing.
use mathlib.Core.Path.{◌≡◌, refl, sym, ap, ◌∙◌}
use mathlib.Core.Bool.{Bool, true, false}
use mathlib.Core.List.{List, [], ◌∷◌, ◌++◌, map, append-nil, append_assoc, map-append}
use Prim.Native.Nat.{ℕ, zero, suc, ◌+◌, ◌≤◌, ◌<◌}
use mir.Val.{bool_byte}
use native.Mathlib.Nat.{not-suc-le-zero, le_of_suc-le-suc}
use native.Mathlib.Numerals.{add-one}
use native.Mathlib.Omega.{arith}
use lib.ListN.{length, take, drop, get_or, set, length-append, drop_of_length-le}
use lib.Seq.{sets, take-nil, take-suc, drop-nil, sets-eq, take_at, drop_at, length-take-le}
use Rattle.output.specs.Output.{overlay, Wrote}
use Rattle.output.proofs.Output.{then, said, from_start}
use Rattle.addresses.specs.declared.Address.{Address}
use Rattle.addresses.specs.declared.Address.TheVariants.{Malformed, Code, Branch}
use Rattle.addresses.specs.Addresses.{text_start}
use Rattle.envelope.specs.Application.{reading}
use Rattle.numbers.specs.ByNumber.{flag, start_of}
use Rattle.numbers.specs.Numbers.{digit_numbers, place_numbers, fields_numbers, places_numbers, text_starts, address_numbers, addresses_numbers, numbers_of}
use Rattle.numbers.specs.Codes.{codes_numbers, last_numbers}

-- a bool as a number
pub flag_is : (b : Bool) → bool_byte b ≡ flag b
flag_is true = refl
flag_is false = refl

-- one more item's number
pub each_more : {A : Type 0} {d d₁ d₂ : List ℕ} {at e₁ e₂ : ℕ} (f : A → ℕ) (l : List A) (k : ℕ) (x : A) (n : ℕ) → at ≤ length d → k < length l → x ≡ get_or l k x → n ≡ f x
    → Wrote d at (map f (take k l)) d₁ e₁ → Wrote d₁ e₁ (n ∷ []) d₂ e₂ → Wrote d at (map f (take (k + 1) l)) d₂ e₂
each_more {A} f l k x n h i g e v u =
    let more : take k l ++ (x ∷ []) ≡ take (k + 1) l = ap (λ (y : A). take k l ++ (y ∷ [])) g ∙ rw add-one (sym (take-suc l k x i)) in
    said (ap (λ (m : ℕ). map f (take k l) ++ (m ∷ [])) e ∙ sym (map-append f (take k l) (x ∷ [])) ∙ ap (map f) more) (then h v u)

-- numbers that are written are stored one after the other
pub wrote_sets : {d s d₁ : List ℕ} {at e : ℕ} → at + length s ≤ length d → Wrote d at s d₁ e → d₁ ≡ sets d at s
unfolding overlay
wrote_sets {d} {s} {d₁} {at} h w = w.bytes ∙ sym (sets-eq s d at h)

-- two ways to say what was written
pub wrote_same : {d s t d₁ : List ℕ} {at e : ℕ} → at ≤ length d → Wrote d at s d₁ e → Wrote d at t d₁ e → s ≡ t
unfolding overlay
wrote_same {d} {s} {t} {d₁} {at} h v w =
    let part : (u : List ℕ) (l : ℕ) → length u ≡ l → take l (drop at (take at d ++ u ++ drop (at + length u) d)) ≡ u =
    λ u l e. ap (take l) (ap (drop at) (append_assoc (take at d) u (drop (at + length u) d)) ∙ drop_at (take at d) (u ++ drop (at + length u) d) at (length-take-le at d h)) ∙ take_at u (drop (at + length u) d) l e in
    let long : length t ≡ length s = omega (arith, v.past, w.past) in
    sym (part s (length s) refl) ∙ ap (λ (l : List ℕ). take (length s) (drop at l)) (sym v.bytes ∙ w.bytes) ∙ part t (length s) long

-- numbers that stay as they are
pub map_same : (l : List ℕ) → map (λ (n : ℕ). n) l ≡ l
map_same [] = refl
map_same (n ∷ l) = ap (λ (k : List ℕ). n ∷ k) (map_same l)

-- a write from the start and one after it
pub and_then : {d s t d₁ d₂ : List ℕ} {e₁ e₂ : ℕ} → Wrote d 0 s d₁ e₁ → Wrote d₁ e₁ t d₂ e₂ → Wrote d 0 (s ++ t) d₂ e₂
and_then v w = then (omega arith) v w

room_suc : (all array : List ℕ) (k : ℕ) → k < length all → set (take (length array) (take k all) ++ drop k array) k (get_or all k 0) ≡ take (length array) (take (suc k) all) ++ drop (suc k) array
room_suc [] array k h = absurd (not-suc-le-zero h)
room_suc (x ∷ all) [] k h = ap (λ (l : List ℕ). set l k (get_or (x ∷ all) k 0)) (drop-nil k)
room_suc (x ∷ all) (y ∷ array) zero h = ap (λ (l : List ℕ). x ∷ (l ++ array)) (sym (take-nil (length array)))
room_suc (x ∷ all) (y ∷ array) (suc k) h = ap (λ (l : List ℕ). x ∷ l) (room_suc all array k (le_of_suc-le-suc h))

-- one more number stored where there is room for it
pub room_more : (all array now : List ℕ) (k : ℕ) → k < length all → now ≡ take (length array) (take k all) ++ drop k array → set now k (get_or all k 0) ≡ take (length array) (take (k + 1) all) ++ drop (k + 1) array
room_more all array now k h e = rw (e, add-one) (room_suc all array k h)

three : (a : Address) (text : ℕ) → length (address_numbers a text) ≡ 3
unfolding address_numbers
three Malformed text = refl
three (Code n) text = refl
three (Branch c b x y) text = refl

-- they are 51
pub length-numbers : (m : List ℕ) → length (numbers_of m) ≡ 51
unfolding numbers_of fields_numbers digit_numbers places_numbers place_numbers text_starts addresses_numbers
length-numbers m =
    let s = three (reading m).1.sender (start_of 1 m + text_start) in
    let r = three (reading m).1.recipient (start_of 2 m + text_start) in
    simp (length-append, s, r)

-- the digit fields in the two parts in which they are written
pub both_parts : (m : List ℕ) → codes_numbers m ++ last_numbers m ≡ fields_numbers m
unfolding codes_numbers last_numbers fields_numbers digit_numbers
both_parts m = refl

-- an array as long as what is written to it holds nothing else
pub written_only : (s d : List ℕ) {after : List ℕ} {end : ℕ} → length d ≡ length s → Wrote d 0 s after end → after ≡ s
written_only s d l w = w.bytes ∙ from_start d s ∙ rw (drop_of_length-le d {i = length s} (omega arith)) (append-nil s)

pub numbers_only : (m d : List ℕ) {after : List ℕ} {end : ℕ} → length d ≡ 51 → Wrote d 0 (numbers_of m) after end → after ≡ numbers_of m
numbers_only m d l w = written_only (numbers_of m) d (l ∙ sym (length-numbers m)) w
