-- Where the log ended and why, and the line that says it (document 01, 'The Friday log'). Assumes nothing.
use Rattle.std.specs.Prelude.{◌≡◌, Bool, true, false, cond, not, ◌&&◌, List, [], ◌∷◌, ◌++◌, ℕ, zero, suc, ◌+◌, ◌-◌, ◌/◌, ◌%◌, eqb, leb, ltb, length, take}
use Rattle.std.proofs.Math.Option.{Option, none, some}
use Rattle.texts.specs.Texts.{ascii}
use Rattle.digits.specs.Decimal.{digits}
use Rattle.layout.specs.Fields.{length_at}
use Rattle.log_rules.specs.Lines.{line_end}
use Rattle.log_rules.specs.Steps.{Log, admitted_in, step, tag_of, content_of, after_field, holds_field, log_from}

-- whether an A0 admits no list of codes
abbrev pub is_none : Option (List ℕ) → Bool
is_none none = true
is_none (some codes) = false

-- '.. another tag, a field of another length (A2 at least 14, A3 14, A4 and A5 empty) or an A0 not in groups of five digits ends the log': whether a field of this tag and contents does
unfoldable pub ends_log : ℕ → List ℕ → Bool
ends_log tag s =
    cond (eqb tag 0xA0) (is_none (admitted_in s))
    (cond (eqb tag 0xA1) false
    (cond (eqb tag 0xA2) (ltb (length s) 14)
    (cond (eqb tag 0xA3) (not (eqb (length s) 14))
    (cond (eqb tag 0xA4) (not (eqb (length s) 0))
    (cond (eqb tag 0xA5) (not (eqb (length s) 0))
    true)))))

-- 'Input that breaks the envelope .. ends the log': whether the log goes on past the first field
abbrev pub goes_on : List ℕ → Bool
goes_on s = holds_field s && not (ends_log (tag_of s) (content_of s))

-- what is left from the first field on that is not whole or ends the log; at most d fields are passed over
unfoldable pub left_after : ℕ → List ℕ → List ℕ
left_after zero s = s
left_after (suc d) s = cond (goes_on s) (left_after d (after_field s)) s

-- a byte string has no more fields than bytes
abbrev pub left_of : List ℕ → List ℕ
left_of s = left_after (length s) s

-- a number in decimal digits without zeros in front: one below 10 ^ 20, as every number of 64 bits is
unfoldable pub no_zeros : List ℕ → List ℕ
no_zeros [] = []
no_zeros (b ∷ []) = b ∷ []
no_zeros (b ∷ c ∷ s) = cond (eqb b 48) (no_zeros (c ∷ s)) (b ∷ c ∷ s)

unfoldable pub decimal : ℕ → List ℕ
decimal n = no_zeros (digits 20 n)

-- a byte as two hexadecimal digits, with capital letters
abbrev pub hex_digit : ℕ → ℕ
hex_digit d = cond (ltb d 10) (48 + d) (55 + d)

abbrev pub hex_text : ℕ → List ℕ
hex_text b = hex_digit (b / 16) ∷ hex_digit (b % 16) ∷ []

-- 'Input that breaks the envelope': so many bytes of a field are not there
unfoldable pub missing_text : ℕ → List ℕ
missing_text n = cond (eqb n 1) (ascii "1 byte of a field is missing") (decimal n ++ ascii " bytes of a field are missing")

-- 'a field of another length', and what the length must be
unfoldable pub length_text : ℕ → ℕ → List ℕ → List ℕ
length_text tag n limit = ascii "the length of field " ++ hex_text tag ++ ascii " is " ++ decimal n ++ limit

-- 'another tag'
unfoldable pub tag_text : ℕ → List ℕ
tag_text tag = ascii "tag " ++ hex_text tag ++ ascii " is none of a session"

-- why a whole field of this tag and length ends the log, which an A1 never does: 'another tag, a field of another length (A2 at least 14, A3 14, A4 and A5 empty) or an A0 not in groups of five digits'
unfoldable pub field_text : ℕ → ℕ → List ℕ
field_text tag n =
    cond (eqb tag 0xA0) (ascii "field A0 is not groups of five digits")
    (cond (eqb tag 0xA2) (length_text tag n (ascii ", less than 14"))
    (cond (eqb tag 0xA3) (length_text tag n (ascii ", not 14"))
    (cond (eqb tag 0xA4) (length_text tag n (ascii ", not 0"))
    (cond (eqb tag 0xA5) (length_text tag n (ascii ", not 0"))
    (tag_text tag)))))

-- 'A0 admitted codes ..; A1 announcement; A2 reception ..; A3 closing ..; A4 revocation; A5 allotment': whether a tag is one of these
abbrev pub is_tag : ℕ → Bool
is_tag tag = leb 0xA0 tag && leb tag 0xA5

-- why the log ended before what is left, which is not empty: 'another tag' first, since then nothing else is known of the bytes; 'A field is a one-byte tag, a two-byte length .. and that many bytes', and where it is not there whole, that is why
unfoldable pub why_text : List ℕ → List ℕ
why_text s =
    cond (is_tag (tag_of s))
    (cond (ltb (length s) 3) (ascii "the length of a field is cut off")
    (cond (ltb (length s) (3 + length_at s)) (missing_text (3 + length_at s - length s))
    (field_text (tag_of s) (length_at s))))
    (tag_text (tag_of s))

-- the line for an offset in the session and what is left from there on
unfoldable pub ending_text : ℕ → List ℕ → List ℕ
ending_text at s = ascii "session_log: ended at byte " ++ decimal at ++ ascii ": " ++ why_text s ++ line_end

-- a field that is taken ends the log where ends_log says so
abbrev pub EndsLog : Type 0
EndsLog = (l : Log) (tag : ℕ) (s : List ℕ) → l.ended ≡ false → (step l tag s).0.ended ≡ ends_log tag s

-- the log is that of the bytes before what is left
abbrev pub LogEndsThere : Type 0
LogEndsThere = (l : Log) (s : List ℕ) → l.ended ≡ false → log_from l s ≡ log_from l (take (length s - length (left_of s)) s)

-- what is left starts with no field past which the log goes on
abbrev pub LeftEnds : Type 0
LeftEnds = (s : List ℕ) → goes_on (left_of s) ≡ false
