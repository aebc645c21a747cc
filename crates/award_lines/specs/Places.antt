-- What the lines of awards are, and what writing them promises. Assumes nothing.
use Rattle.std.specs.Prelude.{◌≡◌, cond, List, [], ◌++◌, ℕ, ltb}
use Rattle.output.specs.Output.{Wrote}
use Rattle.digits.specs.Decimal.{digits}
use Rattle.texts.specs.Texts.{ascii}
use Rattle.rules.specs.Calls.{bids_in_book}
use Rattle.bids.specs.Columns.{bids_of}
use Rattle.book.specs.declared.Book.{Book}
use Rattle.book.specs.Viewed.{viewed, codes_in}
use Rattle.log_rules.specs.Lines.{award_line, award_lines}

-- how a line begins: code and place
abbrev pub award_start : ℕ → ℕ → List ℕ
award_start code place = ascii "W " ++ digits 5 code ++ ascii " " ++ digits 2 place

-- 'award above zero': another has no line
abbrev pub line_if_any : ℕ → ℕ → ℕ → ℕ → List ℕ
line_if_any code place rate award = cond (ltb 0 award) (award_line code place rate award) []

-- n bytes of the lines of awards written from the start of a space, for any book that has these codes and rates, whatever its amounts
abbrev pub WritesAwards : List ℕ → List ℕ → List ℕ → List ℕ → List ℕ → ℕ → Type 0
WritesAwards codes rates awards space after n =
    (b : Book) (amounts : List ℕ)
    → codes_in (viewed b) ≡ codes
    → bids_of rates amounts ≡ bids_in_book (viewed b)
    → Wrote space 0 (award_lines (viewed b) awards) after n
