-- What the code reads of a type and of the characteristics, by their places. Only private contracts cite them. Assumes nothing.
use Rattle.std.specs.Prelude.{Bool, true, ◌&&◌, List, [], ◌∷◌, ℕ, ◌-◌, eqb, take, drop, get_or}
use Rattle.std.specs.Prelude as told
use Rattle.std.proofs.Math.Option.{Option, none, some}
use Rattle.digits.specs.Decimal.{Digits, digits_of, is_number}
use Rattle.places.specs.Bids.{slash}
use Rattle.announcement.specs.declared.Side.{Side}

-- a side and a choice that were told, if they were
abbrev pub side_of : told.Option Side → Option Side
side_of told.None = none
side_of (told.Some s) = some s

abbrev pub choice_of : told.Option Bool → Option Bool
choice_of told.None = none
choice_of (told.Some c) = some c

-- what a part of the characteristics holds
abbrev pub part : ℕ → ℕ → List ℕ → Digits
part from to s = digits_of (take (to - from) (drop from s))

-- what each part holds, in their order
abbrev pub parts_of : List ℕ → List Digits
parts_of s =
    part 0 8 s
    ∷ part 9 11 s
    ∷ part 12 27 s
    ∷ part 28 43 s
    ∷ part 44 59 s
    ∷ part 60 75 s
    ∷ part 76 91 s
    ∷ part 92 100 s
    ∷ []

-- each part has a number
abbrev pub all_numbers : List Digits → Bool
all_numbers [] = true
all_numbers (d ∷ ds) = is_number d && all_numbers ds

-- slashes stand between the parts
abbrev pub slashes_stand : List ℕ → Bool
slashes_stand s =
    eqb (get_or s 8 0) slash
    && eqb (get_or s 11 0) slash
    && eqb (get_or s 27 0) slash
    && eqb (get_or s 43 0) slash
    && eqb (get_or s 59 0) slash
    && eqb (get_or s 75 0) slash
    && eqb (get_or s 91 0) slash
