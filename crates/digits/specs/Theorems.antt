-- What is proved of digits, once over the width ('Digit fields share a fact over their width'). Assumes nothing.
use Rattle.std.specs.Prelude.{◌≡◌, List, ℕ, ◌^◌, ◌<◌, length}
use Rattle.std.specs.Prelude.{Some}
use Rattle.digits.specs.Decimal.{digits_of, digits}

-- a number that fits a width, written as so many digits, reads back
abbrev pub ReadWritten : Type 0
ReadWritten = (w n : ℕ) → n < 10 ^ w → digits_of (digits w n) ≡ Some n

-- and so many digits, written from the number that they make, are the same bytes
abbrev pub NumberWritten : Type 0
NumberWritten = (w n : ℕ) (s : List ℕ) → length s ≡ w → digits_of s ≡ Some n → digits w n ≡ s
