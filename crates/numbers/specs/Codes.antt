-- The digit fields in the two parts in which the code writes them. Only private contracts cite them. Assumes nothing.
use Rattle.std.specs.Prelude.{List, ◌++◌, ℕ}
use Rattle.numbers.specs.ByNumber.{field_digits}
use Rattle.numbers.specs.Numbers.{digit_numbers}

unfoldable pub codes_numbers : List ℕ → List ℕ
codes_numbers m = digit_numbers (field_digits 1 m) ++ digit_numbers (field_digits 2 m)

unfoldable pub last_numbers : List ℕ → List ℕ
last_numbers m = digit_numbers (field_digits 3 m) ++ digit_numbers (field_digits 4 m) ++ digit_numbers (field_digits 5 m) ++ digit_numbers (field_digits 6 m)
