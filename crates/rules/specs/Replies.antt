-- The two replies as bytes (document 01, 'Replies and writing'). Assumes nothing.
use Rattle.std.specs.Prelude.{cond, List, [], ◌∷◌, ◌++◌, ℕ, leb, length, take}
use Rattle.digits.specs.Decimal.{digits}
use Rattle.layout.specs.Fields.{field}
use Rattle.texts.specs.Texts.{ascii}
use Rattle.rules.specs.Receiving.{Error}

-- 'A confirmation has type `6G2`, 040 `01000`, 050 the sender, 022 original CRO (22, 11), 601 reception time, 6G0': by its type, the sender and the
-- CRO of the message, the reception time and what the last field holds
unfoldable pub confirmation : List ℕ → List ℕ → List ℕ → ℕ → List ℕ → List ℕ
confirmation type sender cro time last =
    field 0x01 type
    ++ field 0x04 (ascii "01000")
    ++ field 0x05 sender
    ++ field 0x22 cro
    ++ field 0x60 (digits 6 time)
    ++ field 0x70 last

-- '`IDC - code`'
unfoldable pub error_text : Error → List ℕ
error_text e = e.0 ++ ascii " - " ++ digits 3 e.1

-- 'joined by `/`'
unfoldable pub error_texts : List Error → List ℕ
error_texts [] = []
error_texts (e ∷ []) = error_text e
error_texts (e ∷ f ∷ es) = error_text e ++ ascii "/" ++ error_texts (f ∷ es)

-- 'up to five ..; With over five errors the fifth is `999 - 999`'
unfoldable pub shown : List Error → List Error
shown es = cond (leb (length es) 5) es (take 4 es ++ ((ascii "999", 999) ∷ []))

-- 'RE01 is the message unchanged, then field 098 (tag 98) with `*** MESSAGGIO ERRATO ***`, then 098 with up to five `IDC - code`'
unfoldable pub returned_message : List ℕ → List Error → List ℕ
returned_message m es = m ++ field 0x98 (ascii "*** MESSAGGIO ERRATO ***") ++ field 0x98 (error_texts (shown es))
