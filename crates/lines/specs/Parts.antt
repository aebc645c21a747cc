-- The lines of receptions in the parts that the code writes. Of a reception s begins with its date and time, and m is its message. Assumes nothing.
use Rattle.std.specs.Prelude.{List, [], ◌∷◌, ◌++◌, ℕ}
use Rattle.texts.specs.Texts.{ascii}
use Rattle.rules.specs.Receiving.{Error}
use Rattle.log_rules.specs.Lines.{confirmed_line, returned_line}
use Rattle.log_rules.specs.Steps.{date_in, time_in}

-- the kind of a line, a blank, and the date and time of a reception
abbrev pub clock : ℕ → List ℕ → List ℕ
clock kind s = (kind ∷ []) ++ ascii " " ++ date_in s ++ ascii " " ++ time_in s

-- the line of a confirmed reception
abbrev pub confirmed_at : List ℕ → List ℕ → List ℕ
confirmed_at s m = confirmed_line (date_in s) (time_in s) m

-- the line of a reception returned with errors
abbrev pub returned_at : List ℕ → List ℕ → List Error → List ℕ
returned_at s m es = returned_line (date_in s) (time_in s) m es
