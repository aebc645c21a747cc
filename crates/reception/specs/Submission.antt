-- What a message received leaves. Assumes nothing.
use Rattle.std.specs.Prelude.{◌≡◌, Bool, true, cond, List, ℕ, ◌≤◌, eqb, Option}
use Rattle.digits.specs.Decimal.{number_in}
use Rattle.addresses.specs.Addresses.{code_in}
use Rattle.envelope.specs.declared.application.Fields.{Fields}
use Rattle.rules.specs.Opening.{Terms, rising}
use Rattle.rules.specs.Receiving.{Reception, Error, Entry, returned_errors}
use Rattle.rules.specs.Calls.{book_after}
use Rattle.book.specs.declared.Book.{Book}
use Rattle.book.specs.Viewed.{viewed, find_from, index_of, taken_at, replaced, codes_in, admission_of}
use Rattle.bids.specs.Columns.{bids_from}
use Rattle.errors.specs.declared.Errors.{Errors}
use Rattle.errors.specs.Listed.{listed}
use Rattle.terms.specs.declared.Terms as declared
use Rattle.terms.specs.Viewed as terms
use Rattle.checks.specs.Columns.{reception_of}

-- the errors with which a message is returned, and the book after it
abbrev pub submitted : Terms → List Entry → Reception → List Error × List Entry
submitted t book r = (returned_errors t book r, book_after (returned_errors t book r) t book r)

-- what is known of a code and a time in a book whose codes rise: where the code stands, and whether the book takes the time there
pub record Stands (b : Book) (code time : ℕ) (found : Option ℕ) (taken : Bool) : Type 0 where
  pub rises : rising (codes_in (viewed b)) ≡ true
  pub found_is : found ≡ find_from (viewed b) code 0
  pub taken_is : taken ≡ taken_at b found time

-- the book after a message: without errors it is held with its bids
abbrev pub after_errors : Book → Option ℕ → Fields → Errors → List Entry
after_errors b found f e =
    cond (eqb e.n 0) (replaced (viewed b) (index_of found) (number_in f.time) (bids_from f.places.rates f.places.amounts 0 10)) (viewed b)

-- the errors with which a message is returned, received on a day and at a second, for every book in which its code stands so; at most sixteen
abbrev pub Returns : declared.Terms → Fields → Option ℕ → Bool → List ℕ → ℕ → ℕ → Errors → Type 0
Returns t f found taken m day second e =
    ((b : Book) (space : List ℕ)
    → Stands b (code_in f.sender) (number_in f.time) found taken
    → (listed e, after_errors b found f e) ≡ submitted (terms.viewed t (admission_of b)) (viewed b) (reception_of m day second space))
    × (e.n ≤ 16)
