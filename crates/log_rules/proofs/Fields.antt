-- Stepping field by field gives the log. Assumes nothing.
use mathlib.Core.Path.{◌≡◌, refl, ap}
use mathlib.Core.Bool.{Bool, true, false, cond, not, ◌&&◌}
use mathlib.Core.List.{List, [], ◌∷◌, ◌++◌}
use Prim.Native.Nat.{ℕ, zero, suc}
use lib.ListN.{length}
use Rattle.log_rules.specs.Steps.{Log, start, step, tag_of, content_of, after_field, holds_field, walked, log_of}
use Rattle.log_rules.specs.Theorems.{fields_in, stepped, FieldByField}

-- after its end a log stays
ended-step : (l : Log) (tag : ℕ) (s : List ℕ) → l.ended ≡ true → step l tag s ≡ (l, [])
unfolding step
ended-step l tag s h = rw h

ended_silent : (l : Log) (fs : List (ℕ × List ℕ)) → l.ended ≡ true → stepped l fs ≡ []
unfolding stepped
ended_silent l [] h = refl
ended_silent l (f ∷ fs) h = rw (ended-step l f.0 f.1 h) (ended_silent l fs h)

walks : (d : ℕ) (l : Log) (s : List ℕ) → stepped l (fields_in d s) ≡ walked d l s
unfolding stepped fields_in walked
walks zero l s = refl
walks (suc d) l s = go (holds_field s) l.ended refl (walks d (step l (tag_of s) (content_of s)).0 (after_field s))
  where
    go : (b e : Bool) → l.ended ≡ e
        → stepped (step l (tag_of s) (content_of s)).0 (fields_in d (after_field s)) ≡ walked d (step l (tag_of s) (content_of s)).0 (after_field s)
        → stepped l (cond b ((tag_of s, content_of s) ∷ fields_in d (after_field s)) [])
        ≡ cond (b && not e) ((step l (tag_of s) (content_of s)).1 ++ walked d (step l (tag_of s) (content_of s)).0 (after_field s)) []
    go true true h k = ended_silent l ((tag_of s, content_of s) ∷ fields_in d (after_field s)) h
    go true false h k = ap (λ (x : List ℕ). (step l (tag_of s) (content_of s)).1 ++ x) k
    go false e h k = refl

pub field_by_field : FieldByField
unfolding log_of
field_by_field s = walks (length s) start s
