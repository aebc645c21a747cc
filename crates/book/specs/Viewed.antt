-- The arrays of a book as the entries of document 01, and what finding a code and holding a message mean for them. Assumes nothing.
use Rattle.std.specs.Prelude.{Bool, true, false, cond, List, [], ◌∷◌, ◌++◌, map, ℕ, zero, suc, ◌*◌, ◌-◌, eqb, ltb, length, get_or, replicate, take, Option, Some, None, is_some, unwrap_or}
use Rattle.std.proofs.Math.Option as maybe
use Rattle.rules.specs.Allotment.{Bid}
use Rattle.rules.specs.Opening.{Admission, admitting, any}
use Rattle.places.specs.declared.Rate.{Rate}
use Rattle.places.specs.declared.Amount.{Amount}
use Rattle.bids.specs.Columns.{bids_from}
use Rattle.rules.specs.Receiving.{Submission, Entry, is_after, takes, hold}
use Rattle.book.specs.declared.Book.{Book}

-- a rate as its number, in hundred-thousandths of a percent, and back
abbrev pub hundred_thousandths : Rate → ℕ
hundred_thousandths r = r.0

abbrev pub rate_of : ℕ → Rate
rate_of n = record { 0 = n }

abbrev pub amount_of : ℕ → Amount
amount_of n = record { 0 = n }

-- 'the reference time last accepted, or none'
unfoldable pub held_at : Book → ℕ → maybe.Option ℕ
held_at b i = cond (get_or b.has i false) (maybe.some (get_or b.held i 0)) maybe.none

-- 'For each admitted code the book holds the reference time last accepted, or none, and ten bids.'
unfoldable pub entry_at : Book → ℕ → Entry
entry_at b i = record { code = get_or b.codes i 0; held = held_at b i; bids = bids_from b.rates b.amounts (10 * i) 10 }

-- d entries from index i on
unfoldable pub entries_from : Book → ℕ → ℕ → List Entry
entries_from b i zero = []
entries_from b i (suc d) = entry_at b i ∷ entries_from b (suc i) d

unfoldable pub up_to64 : ℕ → ℕ
up_to64 n = cond (ltb n 64) n 64

-- the entries of a book
unfoldable pub viewed : Book → List Entry
viewed b = entries_from b 0 (up_to64 b.n)

-- where a code first stands, its entries counted from i on
unfoldable pub find_from : List Entry → ℕ → ℕ → Option ℕ
find_from [] c i = None
find_from (e ∷ es) c i = cond (eqb e.code c) (Some i) (find_from es c (suc i))

-- whether the search found an entry, and its index
abbrev pub is_at : Option ℕ → Bool
is_at found = is_some found

abbrev pub index_of : Option ℕ → ℕ
index_of found = unwrap_or found 0

-- whether the entry found takes a message of this time; where none is found, none does
abbrev pub taken_at : Book → Option ℕ → ℕ → Bool
taken_at b (Some i) time = is_after time (held_at b i)
taken_at b None time = false

-- the entry at an index holds a time and bids; past the last entry there is none
unfoldable pub replaced : List Entry → ℕ → ℕ → List Bid → List Entry
replaced [] i time bids = []
replaced (e ∷ es) zero time bids = record { code = e.code; held = maybe.some time; bids = bids } ∷ es
replaced (e ∷ es) (suc i) time bids = e ∷ replaced es i time bids

-- the codes of entries
unfoldable pub codes_in : List Entry → List ℕ
codes_in [] = []
codes_in (e ∷ es) = e.code ∷ codes_in es

-- the limits of its codes
abbrev pub limits_in : Book → List ℕ
limits_in b = take (up_to64 b.n) b.limits

-- whom a book admits
abbrev pub admission_of : Book → Admission
admission_of b = admitting (codes_in (viewed b)) (limits_in b)

-- the first 64 of a list, and zeros where it has fewer
unfoldable pub first64 : List ℕ → List ℕ
first64 xs = take 64 xs ++ replicate (64 - length xs) 0

-- what the entry at an index holds; past the last entry there is none
unfoldable pub held_in : List Entry → ℕ → maybe.Option ℕ
held_in [] i = maybe.none
held_in (e ∷ es) zero = e.held
held_in (e ∷ es) (suc i) = held_in es i

-- a sound message of a code: its time and bids
abbrev pub sound_from : ℕ → ℕ → List Bid → Submission
sound_from c time bids = record { sound = true; code = c; time = time; bids = bids }

-- whether some entry takes a message, and the entries after it
abbrev pub accepted : Submission → List Entry → Bool × List Entry
accepted s es = (any (takes s) es, map (hold s) es)
