-- The codes of an A0 (document 01, 'The Friday log'). Assumes nothing.
use Rattle.std.specs.Prelude.{List, [], ◌∷◌, ℕ, zero, suc, take, drop}
use Rattle.digits.specs.Decimal.{digits_of, number_in}

-- n codes of five digits each
abbrev pub group_code : List ℕ → ℕ
group_code s = number_in (digits_of s)

unfoldable pub codes_from : ℕ → List ℕ → List ℕ
codes_from zero s = []
codes_from (suc n) s = group_code (take 5 s) ∷ codes_from n (drop 5 s)
