-- What a preview from C foretells: the contracts of the calls, and what follows from them. Assumes nothing.
use Rattle.std.specs.Prelude.{◌≡◌, List, ℕ}
use Rattle.rules.specs.Opening.{Admission}
use Rattle.rules.specs.Receiving.{Reception}
use Rattle.rules.specs.Calls as rules
use Rattle.rules.specs.ArrivalOrder.{EnoughSpace}
use Rattle.numbers.specs.Numbers.{in_array}
use Rattle.buffer.specs.Words.{tender_in}
use Rattle.optes_book.specs.Interface.{Opens, Changes, Allots, Previews, marginal_numbers}
use Rattle.book_order.specs.ArrivalOrder.{ReceivesAll, final_allotment}

-- words previewed, then closed at a clock reading that closes them, then allotted, with the same arrays lent: the preview returned and told what
-- allotting does
abbrev pub PreviewForetellsFromC : Type 0
PreviewForetellsFromC =
    (ws after announced awards told given shown given₂ shown₂ : List ℕ) (date time previewed allotted : ℕ)
    → Previews ws awards told previewed given shown
    → Changes ws (rules.close (tender_in ws) date time) 1 0 after
    → Allots after awards told allotted announced given₂ shown₂
    → ◌≡◌ {A = ℕ × List ℕ × List ℕ} (previewed, given, shown) (allotted, given₂, shown₂)

-- a tender opened in words that held anything, then any receptions, then previewed: it is not refused and tells the awards and the marginal rate of
-- the final bids so far
abbrev pub PreviewOfReceptionsFromC : Type 0
PreviewOfReceptionsFromC =
    (m : List ℕ) (a : Admission) (rs : List Reception) (ws first last awards told given shown : List ℕ) (previewed : ℕ)
    → Opens ws m a 0 first
    → ReceivesAll first rs last
    → EnoughSpace rs
    → Previews last awards told previewed given shown
    → ◌≡◌ {A = ℕ × List ℕ × List ℕ} (previewed, given, shown) (0, in_array (final_allotment m a rs).awards awards, in_array (marginal_numbers (final_allotment m a rs).marginal) told)
