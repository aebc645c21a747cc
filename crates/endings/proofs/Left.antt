-- Laws of what is left: a field past which the log goes on is passed over, and no other. Assumes nothing.
use mathlib.Core.Path.{◌≡◌, refl, sym, ap, ap₂, ◌∙◌}
use mathlib.Core.Bool.{Bool, true, false, cond, not, ◌&&◌}
use mathlib.Core.List.{List, ◌++◌}
use Prim.Native.Nat.{ℕ, zero, suc, ◌+◌, ◌-◌, ◌≤◌}
use native.Mathlib.Nat.{add-zero}
use native.Mathlib.Omega.{arith}
use lib.ListN.{length, take, drop, get_or}
use lib.Seq.{get_or-drop, drop-drop}
use borrow.Author.Tests.{le-leb}
use Rattle.laws.proofs.Tests.{and_left}
use Rattle.layout.specs.Fields.{length_at}
use Rattle.log_rules.specs.Steps.{tag_of, content_of, after_field, holds_field}
use Rattle.log_rules.proofs.Walks.{no_head, with_head, after_shorter, tag-before, content-before, after-before, held-before}
use Rattle.endings.specs.Endings.{ends_log, goes_on, left_after, left_of, LeftEnds}

module _ (s : List ℕ) where
  pub goes_held : goes_on s ≡ true → holds_field s ≡ true
  goes_held h = and_left (holds_field s) (not (ends_log (tag_of s) (content_of s))) h

  pub unheld : holds_field s ≡ false → goes_on s ≡ false
  unheld h = rw h

  pub stays_short : length s ≤ 0 → goes_on s ≡ false
  stays_short h = unheld (no_head s (omega arith))

-- counting past the bytes changes nothing
left_enough : (d e : ℕ) (s : List ℕ) → length s ≤ d → length s ≤ e → left_after d s ≡ left_after e s
unfolding left_after
left_enough zero zero s h k = refl
left_enough zero (suc e) s h k = sym (rw (stays_short s h) refl)
left_enough (suc d) zero s h k = rw (stays_short s k) refl
left_enough (suc d) (suc e) s h k = go (goes_on s) refl (λ q. let w = after_shorter s (goes_held s q) in left_enough d e (after_field s) (omega arith) (omega arith))
  where
    go : (b : Bool) → goes_on s ≡ b → (goes_on s ≡ true → left_after d (after_field s) ≡ left_after e (after_field s)) → cond b (left_after d (after_field s)) s ≡ cond b (left_after e (after_field s)) s
    go true q rest = rest q
    go false q rest = refl

module _ (s : List ℕ) where
  pub left_one : (d : ℕ) → goes_on s ≡ true → left_after (suc d) s ≡ left_after d (after_field s)
  unfolding left_after
  left_one d h = ap (λ (b : Bool). cond b (left_after d (after_field s)) s) h

  pub left_none : (d : ℕ) → goes_on s ≡ false → left_after d s ≡ s
  unfolding left_after
  left_none zero h = refl
  left_none (suc d) h = ap (λ (b : Bool). cond b (left_after d (after_field s)) s) h

  pub left_next : goes_on s ≡ true → left_of s ≡ left_of (after_field s)
  left_next h =
      let w = after_shorter s (goes_held s h) in
      left_enough (length s) (suc (length s)) s (omega arith) (omega arith)
      ∙ left_one (length s) h
      ∙ left_enough (length s) (length (after_field s)) (after_field s) (omega arith) (omega arith)

-- a field past which the log goes on is passed over whatever follows
pub left-past : (s rest : List ℕ) → holds_field s ≡ true → ends_log (tag_of s) (content_of s) ≡ false → left_of (s ++ rest) ≡ left_of (after_field s ++ rest)
left-past s rest h e =
    let goes : goes_on (s ++ rest) ≡ true =
    ap₂ (λ (b c : Bool). b && not c) (held-before s rest h) (ap₂ ends_log (tag-before s rest h) (content-before s rest h) ∙ e) in
    left_next (s ++ rest) goes ∙ ap left_of (after-before s rest h)

-- what is left is no longer than the bytes
pub left_short : (d : ℕ) (s : List ℕ) → length (left_after d s) ≤ length s
unfolding left_after
left_short zero s = omega arith
left_short (suc d) s = go (goes_on s) refl (left_short d (after_field s))
  where
    go : (b : Bool) → goes_on s ≡ b → length (left_after d (after_field s)) ≤ length (after_field s) → length (cond b (left_after d (after_field s)) s) ≤ length s
    go true q k = let w = after_shorter s (goes_held s q) in omega arith
    go false q k = omega arith

ends_there : (d : ℕ) (s : List ℕ) → length s ≤ d → goes_on (left_after d s) ≡ false
unfolding left_after
ends_there zero s h = stays_short s h
ends_there (suc d) s h = go (goes_on s) refl (λ q. let w = after_shorter s (goes_held s q) in ends_there d (after_field s) (omega arith))
  where
    go : (b : Bool) → goes_on s ≡ b → (goes_on s ≡ true → goes_on (left_after d (after_field s)) ≡ false) → goes_on (cond b (left_after d (after_field s)) s) ≡ false
    go true q rest = rest q
    go false q rest = q

pub left_ends : LeftEnds
left_ends s = ends_there (length s) s (omega arith)

-- the same from an index of an input on
module _ (input : List ℕ) (at : ℕ) where
  pub goes_on_at : (n : ℕ) → n ≡ length_at (drop at input) → 3 + n ≤ length (drop at input)
      → not (ends_log (get_or input at 0) (take (at + 3 + n - (at + 3)) (drop (at + 3) input))) ≡ goes_on (drop at input)
  goes_on_at n e h =
      let s = drop at input in
      let held : holds_field s ≡ true = with_head s (omega arith) ∙ le-leb (3 + length_at s) (length s) (omega arith) in
      let k : at + 3 + n - (at + 3) ≡ length_at s = omega (arith, e) in
      let tag : get_or input at 0 ≡ tag_of s = sym (get_or-drop at input 0 0 ∙ ap (λ (i : ℕ). get_or input i 0) (add-zero at)) in
      ap not (ap₂ ends_log tag (ap₂ (λ (i : ℕ) (x : List ℕ). take i x) k (sym (drop-drop 3 at input))))
      ∙ sym (ap (λ (b : Bool). b && not (ends_log (tag_of s) (content_of s))) held)

  pub left_next_at : (n : ℕ) → n ≡ length_at (drop at input) → goes_on (drop at input) ≡ true → left_of (drop (at + 3 + n) input) ≡ left_of (drop at input)
  left_next_at n e h =
      let k : at + 3 + n ≡ at + (3 + length_at (drop at input)) = omega (arith, e) in
      sym (left_next (drop at input) h ∙ ap left_of (drop-drop (3 + length_at (drop at input)) at input ∙ ap (λ (i : ℕ). drop i input) (sym k)))
