-- The places of field 6G6 (document 01, 'Envelope'). Assumes nothing.
use Rattle.std.specs.Prelude.{Bool, true, false, cond, ◌&&◌, List, [], ◌∷◌, ◌++◌, map, ℕ, zero, suc, ◌^◌, eqb, ltb, take, drop, get_or}
use Rattle.digits.specs.Decimal.{all_digits, number_of, digits}
use Rattle.places.specs.declared.Rate.{Rate}
use Rattle.places.specs.declared.Amount.{Amount}
use Rattle.places.specs.declared.Place.{Place}
use Rattle.places.specs.declared.Places.{Places}

-- '/' in ASCII
abbrev pub slash : ℕ
slash = 47

-- a place has a rate and an amount, or neither
abbrev pub formed_place : ℕ → ℕ → Place
formed_place r a = record { formed = true; rate = record { 0 = r }; amount = record { 0 = a } }

abbrev pub malformed : Place
malformed = record { formed = false; rate = record { 0 = 0 }; amount = record { 0 = 0 } }

-- 'places of 24 characters: rate of 8 digits, slash, amount of 15 digits'
unfoldable pub is_place : List ℕ → Bool
is_place s = eqb (get_or s 8 0) slash && all_digits (take 8 s) && all_digits (take 15 (drop 9 s))

unfoldable pub place_of : List ℕ → Place
place_of s = cond (is_place s) (formed_place (number_of (take 8 s)) (number_of (take 15 (drop 9 s)))) malformed

-- n places, one after the other
unfoldable pub places_in : ℕ → List ℕ → List Place
places_in zero s = []
places_in (suc n) s = place_of (take 24 s) ∷ places_in n (drop 24 s)

-- places in columns, as the code holds them
abbrev pub columns : List Place → Places
columns ps = record { formed = map (λ (p : Place). p.formed) ps; rates = map (λ (p : Place). p.rate) ps; amounts = map (λ (p : Place). p.amount) ps }

-- '6G6 is ten places'
unfoldable pub places_of : List ℕ → Places
places_of s = columns (places_in 10 s)

-- each place is well formed
unfoldable pub all_formed : List Bool → Bool
all_formed [] = true
all_formed (f ∷ formed) = f && all_formed formed

-- a place written
unfoldable pub place_text : Rate → Amount → List ℕ
place_text r a = digits 8 r.0 ++ (slash ∷ []) ++ digits 15 a.0

-- places written one after the other
unfoldable pub places_text : List Rate → List Amount → List ℕ
places_text [] amounts = []
places_text (r ∷ rates) [] = []
places_text (r ∷ rates) (a ∷ amounts) = place_text r a ++ places_text rates amounts

-- a number is not 'too wide for its field'
abbrev pub fits : ℕ → ℕ → Bool
fits w n = ltb n (10 ^ w)

unfoldable pub places_fit : List Rate → List Amount → Bool
places_fit [] amounts = true
places_fit (r ∷ rates) [] = true
places_fit (r ∷ rates) (a ∷ amounts) = fits 8 r.0 && fits 15 a.0 && places_fit rates amounts
