-- A bid above what is left of a cap, and one that is not. Assumes nothing.
use mathlib.Core.Path.{◌≡◌, refl, sym, ap, ◌∙◌}
use mathlib.Core.Bool.{Bool, cond}
use Prim.Native.Nat.{ℕ, zero, suc, ◌≤◌, ◌<◌}
use borrow.Author.Tests.{lt-ltb, le-ltb}
use Rattle.rules.specs.Allotment.{Bid, no_bid}
use Rattle.rules.specs.Cuts.{cut_to, cut_above}

pub fits : (left : ℕ) (b : Bid) → b.amount ≤ left → b ≡ cut_above left b
unfolding cut_above
fits left b h = sym (ap (λ (t : Bool). cond t (cut_to left b) b) (le-ltb left b.amount h))

above : (left : ℕ) (b : Bid) → left < b.amount → cut_to left b ≡ cut_above left b
unfolding cut_above
above left b h = sym (ap (λ (t : Bool). cond t (cut_to left b) b) (lt-ltb left b.amount h))

pub cut_out : (left : ℕ) (b : Bid) → left < b.amount → left ≡ 0 → no_bid ≡ cut_above left b
unfolding cut_to
cut_out left b h e = sym (ap (λ (n : ℕ). cut_to n b) e) ∙ above left b h

pub cut_down : (left : ℕ) (b : Bid) → left < b.amount → (left ≡ 0 → ⊥) → record { rate = b.rate; amount = left } ≡ cut_above left b
unfolding cut_to
cut_down zero b h e = absurd (e refl)
cut_down (suc n) b h e = above (suc n) b h
