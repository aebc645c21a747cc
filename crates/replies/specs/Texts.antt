-- The replies in the parts that the code writes. Assumes nothing.
use Rattle.std.specs.Prelude.{cond, List, [], ◌∷◌, ◌++◌, ℕ, suc}
use Rattle.layout.specs.Fields.{field, one_of}
use Rattle.texts.specs.Texts.{ascii}
use Rattle.rules.specs.Replies.{error_text}
use Rattle.errors.specs.Listed.{named}

-- the first row of a table that has a code, counted from 0
unfoldable pub row_in : List (List ℕ × List ℕ) → ℕ → ℕ
row_in [] code = 0
row_in (row ∷ rows) code = cond (one_of row.0 code) 0 (suc (row_in rows code))

-- the texts of the errors of some codes, each after a slash
unfoldable pub slashed : List ℕ → List ℕ
slashed [] = []
slashed (code ∷ codes) = (ascii "/" ++ error_text (named code)) ++ slashed codes

-- the sender and the CRO of a message as the recipient and the original CRO of its confirmation
abbrev pub origin : List ℕ → List ℕ → List ℕ
origin sender cro = field 0x05 sender ++ field 0x22 cro
