-- Lines of receptions in the parts that the code writes. Assumes nothing.
use mathlib.Core.Path.{◌≡◌, sym, ap}
use mathlib.Core.List.{List, ◌++◌, append_assoc}
use Prim.Native.Nat.{ℕ}
use Rattle.texts.specs.Texts.{ascii}
use Rattle.rules.specs.Receiving.{Error}
use Rattle.rules.specs.Replies.{error_texts, shown}
use Rattle.log_rules.specs.Lines.{line_end, sender_of, confirmed_line, returned_line}
use Rattle.lines.specs.Parts.{clock, confirmed_at, returned_at}

pub confirmed_parts : (s m : List ℕ) → clock 67 s ++ (ascii " " ++ sender_of m) ++ line_end ≡ confirmed_at s m
unfolding confirmed_line
confirmed_parts s m = ap (λ (x : List ℕ). x ++ line_end) (sym (append_assoc (clock 67 s) (ascii " ") (sender_of m)))

pub returned_parts : (s m : List ℕ) (es : List Error) → clock 82 s ++ (ascii " " ++ sender_of m) ++ ascii " " ++ error_texts (shown es) ++ line_end ≡ returned_at s m es
unfolding returned_line
returned_parts s m es = ap (λ (x : List ℕ). x ++ ascii " " ++ error_texts (shown es) ++ line_end) (sym (append_assoc (clock 82 s) (ascii " ") (sender_of m)))
