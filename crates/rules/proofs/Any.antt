-- The loop over a test of some element: one more element, and the end. Assumes nothing.
use mathlib.Core.Path.{◌≡◌}
use mathlib.Core.Bool.{Bool, ◌||◌, or_assoc, or-false}
use mathlib.Core.List.{List}
use Prim.Native.Nat.{ℕ, suc, ◌+◌, ◌≤◌, ◌<◌}
use native.Mathlib.Numerals.{add-one}
use lib.ListN.{length, drop, get_or, drop_of_length-le}
use lib.Seq.{drop-cons}
use Rattle.rules.specs.Opening.{any}

module _ {A : Type 0} (p : A → Bool) (found : Bool) (xs : List A) (k : ℕ) where
  pub any_more : (d : A) → k < length xs → ((found || p (get_or xs k d)) || any p (drop (k + 1) xs)) ≡ (found || any p (drop k xs))
  unfolding any
  any_more d h = rw (drop-cons xs k d h, add-one) (or_assoc found (p (get_or xs k d)) (any p (drop (suc k) xs)))

  pub any_end : length xs ≤ k → (found || any p (drop k xs)) ≡ found
  unfolding any
  any_end h = rw (drop_of_length-le xs h) (or-false found)
