-- The log of a byte string, its first field taken, whatever follows the bytes. Assumes nothing.
use mathlib.Core.Path.{◌≡◌, refl, sym, ap, ap₂, ◌∙◌}
use mathlib.Core.Bool.{Bool, true, false, cond, not, ◌&&◌}
use mathlib.Core.List.{List, [], ◌++◌}
use Prim.Native.Nat.{ℕ, zero, suc, ◌+◌, ◌*◌, ◌≤◌, ◌<◌}
use native.Mathlib.Omega.{arith}
use lib.Dec.{leb}
use lib.ListN.{length, take, drop, length-append, length-drop, get_or-append}
use lib.Seq.{take-append-le, drop-append-le}
use borrow.Author.Tests.{leb-true, le-leb, lt-leb}
use Rattle.laws.proofs.Tests.{and_left, and_right}
use Rattle.layout.specs.Fields.{length_at}
use Rattle.log_rules.specs.Steps.{Log, step, tag_of, content_of, after_field, holds_field, walked, log_from}

-- what holding a field says of the bytes, and what says that they hold one
module _ (s : List ℕ) where
  pub held-head : holds_field s ≡ true → 3 ≤ length s
  unfolding holds_field
  held-head h = leb-true 3 (length s) (and_left (leb 3 (length s)) (leb (3 + length_at s) (length s)) h)

  pub held_whole : holds_field s ≡ true → 3 + length_at s ≤ length s
  unfolding holds_field
  held_whole h = leb-true (3 + length_at s) (length s) (and_right (leb 3 (length s)) (leb (3 + length_at s) (length s)) h)

  pub no_head : length s < 3 → holds_field s ≡ false
  unfolding holds_field
  no_head h = rw (lt-leb 3 (length s) h)

  pub with_head : 3 ≤ length s → holds_field s ≡ leb (3 + length_at s) (length s)
  unfolding holds_field
  with_head h = rw (le-leb 3 (length s) h)

  pub after_shorter : holds_field s ≡ true → length (after_field s) + 3 ≤ length s
  after_shorter h = let w = held_whole h in simp length-drop (omega arith)

-- a byte string has no more fields than bytes: counting further changes nothing
enough : (d e : ℕ) (l : Log) (s : List ℕ) → length s ≤ d → length s ≤ e → walked d l s ≡ walked e l s
unfolding walked
enough zero zero l s h k = refl
enough zero (suc e) l s h k = sym (rw (no_head s (omega arith)) refl)
enough (suc d) zero l s h k = rw (no_head s (omega arith)) refl
enough (suc d) (suc e) l s h k = go (holds_field s) refl (λ q. let w = after_shorter s q in enough d e (step l (tag_of s) (content_of s)).0 (after_field s) (omega arith) (omega arith))
  where
    go : (b : Bool) → holds_field s ≡ b
        → (holds_field s ≡ true → walked d (step l (tag_of s) (content_of s)).0 (after_field s) ≡ walked e (step l (tag_of s) (content_of s)).0 (after_field s))
        → cond (b && not l.ended) ((step l (tag_of s) (content_of s)).1 ++ walked d (step l (tag_of s) (content_of s)).0 (after_field s)) []
        ≡ cond (b && not l.ended) ((step l (tag_of s) (content_of s)).1 ++ walked e (step l (tag_of s) (content_of s)).0 (after_field s)) []
    go false q rest = refl
    go true q rest = ap (λ (w : List ℕ). cond (not l.ended) ((step l (tag_of s) (content_of s)).1 ++ w) []) (rest q)

-- one field counted
walked-held : (d : ℕ) (l : Log) (s : List ℕ) → holds_field s ≡ true → l.ended ≡ false → walked (suc d) l s ≡ (step l (tag_of s) (content_of s)).1 ++ walked d (step l (tag_of s) (content_of s)).0 (after_field s)
unfolding walked
walked-held d l s h e =
    ap₂ (λ (b c : Bool). cond (b && not c) ((step l (tag_of s) (content_of s)).1 ++ walked d (step l (tag_of s) (content_of s)).0 (after_field s)) []) h e

-- the first field's lines, and then the log of what follows it
log_next : (l : Log) (s : List ℕ) → holds_field s ≡ true → l.ended ≡ false → log_from l s ≡ (step l (tag_of s) (content_of s)).1 ++ log_from (step l (tag_of s) (content_of s)).0 (after_field s)
log_next l s h e =
    enough (length s) (suc (length s)) l s (omega arith) (omega arith)
    ∙ walked-held (length s) l s h e
    ∙ ap (λ (w : List ℕ). (step l (tag_of s) (content_of s)).1 ++ w) (let w = after_shorter s h in enough (length s) (length (after_field s)) (step l (tag_of s) (content_of s)).0 (after_field s) (omega arith) (omega arith))

-- bytes that hold a field hold it whatever follows
module _ (s rest : List ℕ) (h : holds_field s ≡ true) where
  pub tag-before : tag_of (s ++ rest) ≡ tag_of s
  tag-before = let w = held-head s h in get_or-append s rest 0 0 (omega arith)

  length_before : length_at (s ++ rest) ≡ length_at s
  length_before = let w = held-head s h in ap₂ (λ (x y : ℕ). x * 256 + y) (get_or-append s rest 0 1 (omega arith)) (get_or-append s rest 0 2 (omega arith))

  pub content-before : content_of (s ++ rest) ≡ content_of s
  content-before =
      let w = held-head s h in
      let v = held_whole s h in
      ap₂ (λ (n : ℕ) (x : List ℕ). take n x) length_before (drop-append-le 3 s rest w)
      ∙ take-append-le (length_at s) (drop 3 s) rest (omega (arith, length-drop 3 s))

  pub after-before : after_field (s ++ rest) ≡ after_field s ++ rest
  after-before = ap (λ (n : ℕ). drop (3 + n) (s ++ rest)) length_before ∙ drop-append-le (3 + length_at s) s rest (held_whole s h)

  pub held-before : holds_field (s ++ rest) ≡ true
  held-before =
      let w = held-head s h in
      let v = held_whole s h in
      let n = length-append s rest in
      with_head (s ++ rest) (omega arith) ∙ le-leb (3 + length_at (s ++ rest)) (length (s ++ rest)) (omega (arith, length_before))

  -- the log of bytes that hold a field, whatever follows them: its lines, and then the log of the rest from the state after it
  pub field-first : (l : Log) → l.ended ≡ false → log_from l (s ++ rest) ≡ (step l (tag_of s) (content_of s)).1 ++ log_from (step l (tag_of s) (content_of s)).0 (after_field s ++ rest)
  field-first l e =
      log_next l (s ++ rest) held-before e
      ∙ (λ i. (step l (tag-before i) (content-before i)).1 ++ log_from (step l (tag-before i) (content-before i)).0 (after-before i))
