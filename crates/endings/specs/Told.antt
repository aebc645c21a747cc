-- Sessions and what is said of their end, as one table. Assumes nothing.
use Rattle.std.specs.Prelude.{Bool, true, ◌&&◌, List, [], ◌∷◌, ◌++◌, ℕ, ◌-◌, T, length}
use Rattle.texts.specs.Texts.{ascii, same_text}
use Rattle.layout.specs.Fields.{field}
use Rattle.log_rules.specs.Lines.{line_end}
use Rattle.endings.specs.Endings.{left_of, ending_text}

-- the line of a session, which is empty where nothing is left
unfoldable pub if_left : List ℕ → ℕ → List ℕ
if_left [] at = []
if_left (b ∷ s) at = ending_text at (b ∷ s)

unfoldable pub line_of : List ℕ → List ℕ
line_of s = if_left (left_of s) (length s - length (left_of s))

unfoldable pub all_told : List (List ℕ × List ℕ) → Bool
all_told [] = true
all_told (r ∷ rs) = same_text (line_of r.0) r.1 && all_told rs

unfoldable pub told : List ℕ → List ℕ
told text = ascii "session_log: ended at byte " ++ text ++ line_end

-- sessions and what is said of their end
unfoldable pub endings : List (List ℕ × List ℕ)
endings =
    ([], [])
    ∷ (field 0xA0 (ascii "9000190002") ++ field 0xA1 [] ++ field 0xA2 (ascii "12032012103000") ++ field 0xA3 (ascii "12032012110001") ++ field 0xA4 [] ++ field 0xA5 [], [])
    -- cut off
    ∷ (0xA2 ∷ [], told (ascii "0: the length of a field is cut off"))
    ∷ (field 0xA5 [] ++ (0xA2 ∷ 0 ∷ []), told (ascii "3: the length of a field is cut off"))
    ∷ (field 0xA0 (ascii "90001") ++ (0xA2 ∷ 0 ∷ 14 ∷ 49 ∷ []), told (ascii "8: 13 bytes of a field are missing"))
    ∷ (0xA3 ∷ 1 ∷ 0 ∷ [], told (ascii "0: 256 bytes of a field are missing"))
    ∷ (0xA5 ∷ 0 ∷ 1 ∷ [], told (ascii "0: 1 byte of a field is missing"))
    -- of another tag, whole or not
    ∷ (0xFF ∷ [], told (ascii "0: tag FF is none of a session"))
    ∷ (field 0xA5 [] ++ (0x9F ∷ 0 ∷ 1 ∷ []), told (ascii "3: tag 9F is none of a session"))
    -- fields that end the log, whatever follows them
    ∷ (field 0xA0 (ascii "9000A") ++ field 0xA5 [], told (ascii "0: field A0 is not groups of five digits"))
    ∷ (field 0xA0 (ascii "900010"), told (ascii "0: field A0 is not groups of five digits"))
    ∷ (field 0xA2 (ascii "1203201210300"), told (ascii "0: the length of field A2 is 13, less than 14"))
    ∷ (field 0xA5 [] ++ field 0xA4 [] ++ field 0xA5 [] ++ field 0xA4 [] ++ field 0xA3 (ascii "1203201211000"), told (ascii "12: the length of field A3 is 13, not 14"))
    ∷ (field 0xA3 (ascii "120320121100010"), told (ascii "0: the length of field A3 is 15, not 14"))
    ∷ (field 0xA4 (ascii "0") ++ field 0xA5 (ascii "0"), told (ascii "0: the length of field A4 is 1, not 0"))
    ∷ (field 0xA4 [] ++ field 0xA5 (ascii "0"), told (ascii "3: the length of field A5 is 1, not 0"))
    ∷ (field 0xA6 [], told (ascii "0: tag A6 is none of a session"))
    ∷ (field 0xFF (ascii "0") ++ field 0xA5 [], told (ascii "0: tag FF is none of a session"))
    ∷ (field 0x09 [], told (ascii "0: tag 09 is none of a session"))
    ∷ []

abbrev pub EndingsTold : Type 0
EndingsTold = T (all_told endings)
