-- The errors that a list of codes stands for (document 01, 'Opening and receiving'). Assumes nothing.
use Rattle.std.specs.Prelude.{cond, List, [], ◌∷◌, map, ℕ, take}
use Rattle.layout.specs.Fields.{one_of}
use Rattle.texts.specs.Texts.{ascii}
use Rattle.rules.specs.Receiving.{Error}
use Rattle.errors.specs.declared.Errors.{Errors}

-- the codes of each IDC; no code stands under two
unfoldable pub idc_table : List (List ℕ × List ℕ)
idc_table =
    (900 ∷ [], ascii "001")
    ∷ (309 ∷ 300 ∷ [], ascii "040")
    ∷ (599 ∷ [], ascii "050")
    ∷ (521 ∷ [], ascii "020")
    ∷ (502 ∷ 522 ∷ [], ascii "D31")
    ∷ (503 ∷ 302 ∷ [], ascii "601")
    ∷ (908 ∷ [], ascii "010")
    ∷ (303 ∷ [], ascii "6G0")
    ∷ (901 ∷ 902 ∷ 903 ∷ 904 ∷ 905 ∷ 906 ∷ 907 ∷ [], ascii "6G6")
    ∷ (301 ∷ [], ascii "6G5")
    ∷ []

-- the IDC of a code; 999, and what is no code, has 999
unfoldable pub idc_in : List (List ℕ × List ℕ) → ℕ → List ℕ
idc_in [] code = ascii "999"
idc_in (row ∷ rows) code = cond (one_of row.0 code) row.1 (idc_in rows code)

-- the error of a code
unfoldable pub named : ℕ → Error
named code = (idc_in idc_table code, code)

-- the errors of a list of codes, in order
abbrev pub listed : Errors → List Error
listed e = map named (take e.n e.codes)
