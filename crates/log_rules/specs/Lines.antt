-- The lines of the log as bytes (document 01, 'The Friday log'). Assumes nothing.
use Rattle.std.specs.Prelude.{cond, List, [], ◌∷◌, ◌++◌, ℕ, suc, ltb, take, drop, length}
use Rattle.digits.specs.Decimal.{digits}
use Rattle.texts.specs.Texts.{ascii}
use Rattle.envelope.specs.declared.application.Field.TheVariants.{Sender}
use Rattle.envelope.specs.Application.{bytes_of}
use Rattle.rules.specs.Allotment.{Bid}
use Rattle.rules.specs.Receiving.{Error, Entry}
use Rattle.rules.specs.Replies.{error_texts, shown}

-- a line ends with one line feed
abbrev pub line_end : List ℕ
line_end = 10 ∷ []

-- 'code is the sender's first five bytes'
abbrev pub sender_of : List ℕ → List ℕ
sender_of m = take 5 (bytes_of Sender m)

-- '`C` date time code'; date and time are the bytes of the clock
unfoldable pub confirmed_line : List ℕ → List ℕ → List ℕ → List ℕ
confirmed_line date time m = ascii "C " ++ date ++ ascii " " ++ time ++ ascii " " ++ sender_of m ++ line_end

-- '`R` date time code, errors as in 098'
unfoldable pub returned_line : List ℕ → List ℕ → List ℕ → List Error → List ℕ
returned_line date time m es = ascii "R " ++ date ++ ascii " " ++ time ++ ascii " " ++ sender_of m ++ ascii " " ++ error_texts (shown es) ++ line_end

-- 'A refused call is `R -----`, a blank and its two-digit number.'
unfoldable pub refused_line : ℕ → List ℕ
refused_line n = ascii "R ----- " ++ digits 2 n ++ line_end

-- '`W` code, place, rate, award'; 'place two digits, the others as wide as their fields'
unfoldable pub award_line : ℕ → ℕ → ℕ → ℕ → List ℕ
award_line code place rate award =
    ascii "W " ++ digits 5 code ++ ascii " " ++ digits 2 place ++ ascii " " ++ digits 8 rate ++ ascii " " ++ digits 15 award ++ line_end

-- 'award above zero': the lines of a code's places from a place on
unfoldable pub place_lines : ℕ → ℕ → List Bid → List ℕ → List ℕ
place_lines code place [] awards = []
place_lines code place (b ∷ bs) [] = []
place_lines code place (b ∷ bs) (a ∷ awards) = cond (ltb 0 a) (award_line code place b.rate a) [] ++ place_lines code (suc place) bs awards

-- the lines of the book, in book order; places are counted from 1
unfoldable pub award_lines : List Entry → List ℕ → List ℕ
award_lines [] awards = []
award_lines (e ∷ es) awards = place_lines e.code 1 e.bids awards ++ award_lines es (drop (length e.bids) awards)
