-- Why the log ended, by what is left. Assumes nothing.
use mathlib.Core.Path.{◌≡◌, refl, sym, ap}
use mathlib.Core.Bool.{true, false}
use mathlib.Core.List.{List}
use Prim.Native.Nat.{ℕ, ◌+◌, ◌-◌, ◌≤◌, ◌<◌}
use native.Mathlib.Omega.{arith}
use borrow.Author.Tests.{lt-ltb, le-ltb}
use lib.ListN.{length}
use Rattle.texts.specs.Texts.{ascii}
use Rattle.layout.specs.Fields.{length_at}
use Rattle.log_rules.specs.Steps.{tag_of}
use Rattle.endings.specs.Endings.{missing_text, tag_text, field_text, is_tag, why_text}

module _ (s : List ℕ) where
  pub why_tag : is_tag (tag_of s) ≡ false → why_text s ≡ tag_text (tag_of s)
  unfolding why_text
  why_tag t = rw t refl

  module _ (t : is_tag (tag_of s) ≡ true) where
    pub why_cut : length s < 3 → why_text s ≡ ascii "the length of a field is cut off"
    unfolding why_text
    why_cut h = rw (t, lt-ltb (length s) 3 h) refl

    module _ (n : ℕ) (e : n ≡ length_at s) (h : 3 ≤ length s) where
      pub why_missing : length s < 3 + n → why_text s ≡ missing_text (3 + n - length s)
      unfolding why_text
      why_missing k =
          let l : length s < 3 + length_at s = omega (arith, e) in
          let m : 3 + length_at s - length s ≡ 3 + n - length s = omega (arith, e) in
          rw (t, le-ltb (length s) 3 h, lt-ltb (length s) (3 + length_at s) l) (ap missing_text m)

      pub why_field : 3 + n ≤ length s → why_text s ≡ field_text (tag_of s) n
      unfolding why_text
      why_field k =
          let l : 3 + length_at s ≤ length s = omega (arith, e) in
          rw (t, le-ltb (length s) 3 h, le-ltb (length s) (3 + length_at s) l) (ap (field_text (tag_of s)) (sym e))
