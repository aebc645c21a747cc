-- Dates and times (document 01, 'Envelope', 'Opening and receiving'). Assumes nothing.
use Rattle.std.specs.Prelude.{Bool, cond, not, ◌&&◌, ◌||◌, ℕ, ◌/◌, ◌%◌, eqb, leb, ltb}

-- a date is a number 'read as ddmmyyyy': its day, month and year
abbrev pub day : ℕ → ℕ
day n = n / 1000000

abbrev pub month : ℕ → ℕ
month n = n / 10000 % 100

abbrev pub year : ℕ → ℕ
year n = n % 10000

-- the Gregorian rule: each fourth year, of the hundredth years each fourth
abbrev pub leap_year : ℕ → Bool
leap_year y = (eqb (y % 4) 0 && not (eqb (y % 100) 0)) || eqb (y % 400) 0

unfoldable pub days_in : ℕ → ℕ → ℕ
days_in m y = cond (eqb m 2) (cond (leap_year y) 29 28) (cond (eqb m 4 || eqb m 6 || eqb m 9 || eqb m 11) 30 31)

-- 'Dates are Gregorian, years 1900 to 9999'
abbrev pub valid_date : ℕ → Bool
valid_date n = leb 1900 (year n) && leb 1 (month n) && leb (month n) 12 && leb 1 (day n) && leb (day n) (days_in (month n) (year n))

-- 'times 000000 to 235959', read as hhmmss
abbrev pub valid_time : ℕ → Bool
valid_time n = leb (n / 10000) 23 && leb (n / 100 % 100) 59 && leb (n % 100) 59

-- date a comes before date b in the calendar: by year, then month, then day
abbrev pub before : ℕ → ℕ → Bool
before a b =
    ltb (year a) (year b) || (eqb (year a) (year b) && (ltb (month a) (month b) || (eqb (month a) (month b) && ltb (day a) (day b))))

-- 'date and time together, later than': a later date, or the same date and a later time
abbrev pub later : ℕ → ℕ → ℕ → ℕ → Bool
later date time day₂ second = before day₂ date || (eqb date day₂ && ltb second time)
