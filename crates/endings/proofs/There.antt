-- The log is that of the bytes before what is left. Assumes nothing.
use mathlib.Core.Path.{◌≡◌, refl, sym, ap, ap₂, subst, ◌∙◌}
use mathlib.Core.Bool.{Bool, true, false, not, ◌&&◌}
use mathlib.Core.List.{List, [], ◌++◌}
use Prim.Native.Nat.{ℕ, zero, suc, ◌+◌, ◌*◌, ◌-◌, ◌≤◌}
use native.Mathlib.Omega.{arith}
use lib.ListN.{length, take, drop, take-append-drop, length-drop}
use lib.Seq.{length-take-le, drop-length, get_or-take, take-add}
use borrow.Author.Tests.{le-leb, not-true, not-false}
use Rattle.laws.proofs.Tests.{and_right}
use Rattle.layout.specs.Fields.{length_at}
use Rattle.log_rules.specs.Steps.{Log, Step, ending, step, tag_of, content_of, after_field, holds_field, walked, log_from}
use Rattle.log_rules.proofs.Walks.{held_whole, with_head, after_shorter, tag-before, content-before, field-first}
use Rattle.endings.specs.Endings.{ends_log, goes_on, left_after, LogEndsThere}
use Rattle.endings.proofs.Ending.{Ends, ends_step, ends_log_lem}
use Rattle.endings.proofs.Left.{goes_held, left_one, left_none, left_short, stays_short}

-- a log without a whole field, and one that has ended, are empty
none_held : (d : ℕ) (l : Log) (s : List ℕ) → holds_field s ≡ false → walked d l s ≡ []
unfolding walked
none_held zero l s h = refl
none_held (suc d) l s h = rw h refl

and_not_true : (b : Bool) → (b && false) ≡ false
and_not_true true = refl
and_not_true false = refl

ended_silent : (d : ℕ) (l : Log) (s : List ℕ) → l.ended ≡ true → walked d l s ≡ []
unfolding walked
ended_silent zero l s h = refl
ended_silent (suc d) l s h = rw (h, and_not_true) refl

-- the first field of bytes that hold one, by itself
module _ (s : List ℕ) (h : holds_field s ≡ true) where
  abbrev first : List ℕ
  first = take (3 + length_at s) s

  in_two : first ++ after_field s ≡ s
  in_two = take-append-drop (3 + length_at s) s

  first-length : length first ≡ 3 + length_at s
  first-length = length-take-le (3 + length_at s) s (held_whole s h)

  length-same : length_at first ≡ length_at s
  length-same = ap₂ (λ (x y : ℕ). x * 256 + y) (get_or-take (3 + length_at s) s 1 0 (omega arith)) (get_or-take (3 + length_at s) s 2 0 (omega arith))

  first-held : holds_field first ≡ true
  first-held =
      let n = first-length in
      let k = length-same in
      with_head first (omega arith) ∙ le-leb (3 + length_at first) (length first) (omega arith)

  none_after : after_field first ≡ []
  none_after =
      let k = length-same in
      let n = first-length in
      let e : 3 + length_at first ≡ length first = omega arith in
      ap (λ (i : ℕ). drop i first) e ∙ drop-length first

  ends_same : ends_log (tag_of first) (content_of first) ≡ ends_log (tag_of s) (content_of s)
  ends_same =
      ap₂ ends_log (sym (tag-before first (after_field s) first-held)) (sym (content-before first (after_field s) first-held))
      ∙ ap (λ (x : List ℕ). ends_log (tag_of x) (content_of x)) in_two

  module _ (l : Log) (e : l.ended ≡ false) where
    abbrev taken : Step
    taken = step l (tag_of first) (content_of first)

    field_then : (rest : List ℕ) → log_from l (first ++ rest) ≡ taken.1 ++ log_from taken.0 rest
    field_then rest = field-first first rest first-held l e ∙ ap (λ (x : List ℕ). taken.1 ++ log_from taken.0 (x ++ rest)) none_after

    -- a field that ends the log leaves it empty
    ending_silent : ends_log (tag_of s) (content_of s) ≡ true → log_from l s ≡ []
    ending_silent q =
        let x : taken ≡ ending l = subst (λ (b : Bool). Ends l b taken) (ends_same ∙ q) (ends_step l e (tag_of first) (content_of first)) in
        ap (log_from l) (sym in_two)
        ∙ field_then (after_field s)
        ∙ ap (λ (y : Step). y.1 ++ log_from y.0 (after_field s)) x
        ∙ ended_silent (length (after_field s)) (ending l).0 (after_field s) refl

    -- one past which it goes on takes the log with it
    field_on : (m : ℕ) → ends_log (tag_of s) (content_of s) ≡ false
        → (taken.0.ended ≡ false → log_from taken.0 (after_field s) ≡ log_from taken.0 (take m (after_field s)))
        → log_from l s ≡ log_from l (take (3 + length_at s + m) s)
    field_on m q rest =
        ap (log_from l) (sym in_two)
        ∙ field_then (after_field s)
        ∙ ap (λ (x : List ℕ). taken.1 ++ x) (rest (ends_log_lem l (tag_of first) (content_of first) e ∙ ends_same ∙ q))
        ∙ sym (field_then (take m (after_field s)))
        ∙ ap (log_from l) (sym (take-add (3 + length_at s) m s))

-- where the log does not go on it is empty
stays_silent : (l : Log) (s : List ℕ) → l.ended ≡ false → goes_on s ≡ false → log_from l s ≡ []
stays_silent l s e q = go (holds_field s) refl
  where
    go : (b : Bool) → holds_field s ≡ b → log_from l s ≡ []
    go false h = none_held (length s) l s h
    go true h = ending_silent s h l e (not-false (ends_log (tag_of s) (content_of s)) (sym (ap (λ (b : Bool). b && not (ends_log (tag_of s) (content_of s))) h) ∙ q))

-- as many bytes before what is left as the first field has, and those after it
before-left : (d : ℕ) (s : List ℕ) → goes_on s ≡ true → 3 + length_at s + (length (after_field s) - length (left_after d (after_field s))) ≡ length s - length (left_after (suc d) s)
before-left d s q =
    let w = held_whole s (goes_held s q) in
    let n = length-drop (3 + length_at s) s in
    let short = left_short d (after_field s) in
    let u = ap length (left_one s d q) in
    omega (arith, w, n, short, u)

there_none : (d : ℕ) (l : Log) (s : List ℕ) → l.ended ≡ false → goes_on s ≡ false → log_from l s ≡ log_from l (take (length s - length (left_after d s)) s)
unfolding walked
there_none d l s e q =
    let u = ap length (left_none s d q) in
    let n : length s - length (left_after d s) ≡ 0 = omega (arith, u) in
    stays_silent l s e q ∙ ap (λ (k : ℕ). log_from l (take k s)) (sym n)

there : (d : ℕ) (l : Log) (s : List ℕ) → length s ≤ d → l.ended ≡ false → log_from l s ≡ log_from l (take (length s - length (left_after d s)) s)
there zero l s h e = there_none zero l s e (stays_short s h)
there (suc d) l s h e = go (goes_on s) refl (λ k q. let w = after_shorter s (goes_held s q) in there d k (after_field s) (omega arith))
  where
    go : (b : Bool) → goes_on s ≡ b
        → ((k : Log) → goes_on s ≡ true → k.ended ≡ false → log_from k (after_field s) ≡ log_from k (take (length (after_field s) - length (left_after d (after_field s))) (after_field s)))
        → log_from l s ≡ log_from l (take (length s - length (left_after (suc d) s)) s)
    go false q rest = there_none (suc d) l s e q
    go true q rest =
        let held = goes_held s q in
        field_on s held l e (length (after_field s) - length (left_after d (after_field s))) (not-true (ends_log (tag_of s) (content_of s)) (and_right (holds_field s) (not (ends_log (tag_of s) (content_of s))) q)) (rest _ q)
        ∙ ap (λ (n : ℕ). log_from l (take n s)) (before-left d s q)

pub log_ends_there : LogEndsThere
log_ends_there l s e = there (length s) l s (omega arith) e
