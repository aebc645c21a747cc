-- Loops over bids: one more bid, and the end. Assumes nothing.
use mathlib.Core.Path.{◌≡◌, refl, sym, ap, ◌∙◌}
use mathlib.Core.Bool.{Bool, true, false, ◌&&◌, ◌||◌, not, cond, or_assoc, or-false}
use mathlib.Core.List.{List, ◌∷◌}
use Prim.Native.Nat.{ℕ, suc, ◌+◌, ◌-◌, ◌≤◌, ◌<◌}
use native.Mathlib.Numerals.{add-one}
use native.Mathlib.Omega.{arith}
use borrow.Author.Tests.{ltb-true, ltb-false, lt-ltb, le-ltb}
use lib.Dec.{ltb}
use mir.Val.{bool_byte}
use lib.ListN.{length, drop, get_or, drop_of_length-le}
use lib.Seq.{drop-cons}
use Rattle.rules.specs.Allotment.{Bid, no_bid, filled, keep, total}
use Rattle.rules.specs.Opening.{any}
use Rattle.rules.specs.Receiving.{gap}

-- the loop over a gap: before the first zero place the rest may have one, after it no place may be filled
abbrev pub gap_after : Bool → List Bid → Bool
gap_after ended bs = cond ended (any filled bs) (gap bs)

gap_step : (found ended b : Bool) (rest : List Bid) (x : Bid) → filled x ≡ b → ((found || (ended && b)) || gap_after (ended || not b) rest) ≡ (found || gap_after ended (x ∷ rest))
unfolding any gap
gap_step found true b rest x h = rw h (or_assoc found b (any filled rest))
gap_step found false true rest x h = rw (h, or-false found) refl
gap_step found false false rest x h = rw (h, or-false found) refl

pub gap_more : (found ended : Bool) (bs : List Bid) (k : ℕ) → k < length bs
    → ((found || (ended && filled (get_or bs k no_bid))) || gap_after (ended || not (filled (get_or bs k no_bid))) (drop (k + 1) bs)) ≡ (found || gap_after ended (drop k bs))
gap_more found ended bs k h = rw (drop-cons bs k no_bid h, add-one) (gap_step found ended (filled (get_or bs k no_bid)) (drop (suc k) bs) (get_or bs k no_bid) refl)

pub gap_end : (found ended : Bool) (bs : List Bid) (k : ℕ) → length bs ≤ k → (found || gap_after ended (drop k bs)) ≡ found
unfolding any gap
gap_end found true bs k h = rw (drop_of_length-le bs h) (or-false found)
gap_end found false bs k h = rw (drop_of_length-le bs h) (or-false found)

-- the loop over a count
pub flag_is : (b : Bool) → bool_byte b ≡ cond b 1 0
flag_is true = refl
flag_is false = refl

pub flag_at_most : (b : Bool) (n : ℕ) → n ≡ bool_byte b → n ≤ 1
flag_at_most true n e = omega arith
flag_at_most false n e = omega arith

pub one_at_most : (b : Bool) → cond b 1 0 ≤ 1
one_at_most true = omega arith
one_at_most false = omega arith

count-step : (x : Bid) (rest : List Bid) (b : Bool) → filled x ≡ b → cond b 1 0 + length (keep filled rest) ≡ length (keep filled (x ∷ rest))
unfolding keep
count-step x rest true h = rw h (omega arith)
count-step x rest false h = rw h (omega arith)

pub count_more : (bs : List Bid) (k : ℕ) → k < length bs → cond (filled (get_or bs k no_bid)) 1 0 + length (keep filled (drop (k + 1) bs)) ≡ length (keep filled (drop k bs))
count_more bs k h = rw (drop-cons bs k no_bid h, add-one) (count-step (get_or bs k no_bid) (drop (suc k) bs) (filled (get_or bs k no_bid)) refl)

pub count_end : (bs : List Bid) (k : ℕ) → length bs ≤ k → length (keep filled (drop k bs)) ≡ 0
unfolding keep
count_end bs k h = rw (drop_of_length-le bs h) refl

-- the loop over a total: an amount above what is left, or a rest above what it leaves, is a total above it
pub above_step : (left a t : ℕ) (b d : Bool) → ltb left a ≡ b → ltb (left - a) t ≡ d → (b || d) ≡ ltb left (a + t)
above_step left a t true d h k = sym (lt-ltb left (a + t) (omega (arith, ltb-true left a h)))
above_step left a t false true h k = sym (lt-ltb left (a + t) (omega (arith, ltb-true (left - a) t k, ltb-false left a h)))
above_step left a t false false h k = sym (le-ltb left (a + t) (omega (arith, ltb-false (left - a) t k, ltb-false left a h)))

pub above_more : (over : Bool) (left : ℕ) (bs : List Bid) (k : ℕ) → k < length bs
    → ((over || ltb left (get_or bs k no_bid).amount) || ltb (left - (get_or bs k no_bid).amount) (total (drop (k + 1) bs))) ≡ (over || ltb left (total (drop k bs)))
unfolding total
above_more over left bs k h =
    let a = (get_or bs k no_bid).amount in
    let t = total (drop (suc k) bs) in
    rw (drop-cons bs k no_bid h, add-one) (or_assoc over (ltb left a) (ltb (left - a) t) ∙ ap (λ (x : Bool). over || x) (above_step left a t (ltb left a) (ltb (left - a) t) refl refl))

pub above_end : (over : Bool) (left : ℕ) (bs : List Bid) (k : ℕ) → length bs ≤ k → (over || ltb left (total (drop k bs))) ≡ over
unfolding total
above_end over left bs k h = rw (drop_of_length-le bs h, le-ltb left 0 (omega arith)) (or-false over)
