-- The line of a reception, in the cases of the code: refused, confirmed or returned. Assumes nothing.
use mathlib.Core.Path.{◌≡◌, refl, sym, ap, ◌∙◌}
use mathlib.Core.Bool.{false, false≢true}
use mathlib.Core.List.{List, [], ◌∷◌}
use Prim.Native.Nat.{ℕ}
use lib.ListN.{drop}
use Rattle.rules.specs.Receiving.{Error, is_empty}
use Rattle.rules.specs.Calls.{answer_to, refused}
use Rattle.log_rules.specs.Lines.{refused_line, confirmed_line, returned_line}
use Rattle.log_rules.specs.Steps.{date_in, time_in, answer_line}

pub line_refused : (n : ℕ) (s : List ℕ) → refused_line n ≡ answer_line (refused n) s
unfolding answer_line
line_refused n s = refl

pub line_confirmed : (es : List Error) (k : ℕ) (s m : List ℕ) → es ≡ [] → m ≡ drop 14 s → confirmed_line (date_in s) (time_in s) m ≡ answer_line (answer_to es k) s
unfolding answer_line answer_to
line_confirmed es k s m e p = ap (confirmed_line (date_in s) (time_in s)) p ∙ sym (ap (λ (x : List Error). answer_line (answer_to x k) s) e)

pub line_returned : (es : List Error) (k : ℕ) (s m : List ℕ) → is_empty es ≡ false → m ≡ drop 14 s → returned_line (date_in s) (time_in s) m es ≡ answer_line (answer_to es k) s
unfolding answer_line answer_to is_empty
line_returned [] k s m e p = absurd (false≢true (sym e))
line_returned (x ∷ es) k s m e p = ap (λ (y : List ℕ). returned_line (date_in s) (time_in s) y (x ∷ es)) p
