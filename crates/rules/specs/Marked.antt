-- Document 01's marked cases M1 to M10, and further ones that pin what demand 3 leaves open, as one table. Assumes nothing.
use Rattle.std.specs.Prelude.{Bool, true, not, ◌&&◌, List, [], ◌∷◌, ◌++◌, map, ℕ, length, replicate, get_or, take}
use Rattle.std.proofs.Math.Option.{Option, none, some}
use Rattle.calendar.specs.Calendar.{valid_date}
use Rattle.texts.specs.Texts.{same_text}
use Rattle.announcement.specs.declared.Side.{Side}
use Rattle.announcement.specs.declared.Side.TheVariants.{La, Lp}
use Rattle.rules.specs.Allotment.{Bid, filled, is_in, keep, division, awards, marginal_rate}
use Rattle.rules.specs.Opening.{opening_refused, offer_of}
use Rattle.rules.specs.Receiving.{Reception, Error, errors, submission, cancels}
use Rattle.rules.specs.Calls.{Tender, Answer, confirmed, returned, refused, open_tender, receive, bids_in_book, allotment}
use Rattle.rules.specs.ArrivalOrder.{receive_all}
use Rattle.rules.specs.Messages.{announcement, admission, terms, Pairs, message, reception}

-- the codes of the errors of a message
abbrev pub code : Error → ℕ
code e = e.1

unfoldable pub error_codes : Reception → List ℕ
error_codes r = map code (errors terms r)

-- the errors of one application by 90001 received at 103000
unfoldable pub found : Pairs → List ℕ
found ps = error_codes (reception 103000 (message 90001 102900 ps))

-- 'four receptions with reference times 102900, 103100, 103400 and 102000'
unfoldable pub worked : List Reception
worked =
    reception 103000 (message 90002 102900 ((150000, 60000) ∷ []))
    ∷ reception 103101 (message 90001 103100 ((120000, 50000) ∷ []))
    ∷ reception 103500 (message 90003 103400 ((120000, 40000) ∷ []))
    ∷ reception 104000 (message 90002 102000 ((150000, 70000) ∷ []))
    ∷ []

unfoldable pub tender_after : List Reception → Tender
tender_after rs = receive_all (open_tender announcement admission).1 rs

-- what a reception is answered after others, as a number: 0 confirmed, else the first error's code, or the refusal
unfoldable pub answer_code : Answer → ℕ
answer_code (confirmed n) = 0
answer_code (returned es n) = get_or (map code es) 0 0
answer_code (refused n) = n

unfoldable pub answer_after : List Reception → Reception → ℕ
answer_after rs r = answer_code (receive (tender_after rs) r).0

-- amounts and rates in the book, place by place
abbrev pub rate : Bid → ℕ
rate b = b.rate

abbrev pub amount : Bid → ℕ
amount b = b.amount

-- bids by themselves
abbrev pub bid : ℕ × ℕ → Bid
bid p = record { rate = p.0; amount = p.1 }

unfoldable pub shared : Side → ℕ → ℕ → Pairs → List ℕ
shared side limit offered ps = awards (record { side = side; limit = limit; offered = offered }) (map bid ps)

unfoldable pub marginal : Side → ℕ → ℕ → Pairs → Option ℕ
marginal side limit offered ps = marginal_rate (record { side = side; limit = limit; offered = offered }) (map bid ps)

-- an option as a list, to be compared
abbrev pub list_of : Option ℕ → List ℕ
list_of none = []
list_of (some n) = n ∷ []

-- a row: the mark, or 0 where document 01 has none, and whether the definitions give what it says
pub record Row : Type 0 where
  pub mark : ℕ
  pub holds : Bool

abbrev pub row : ℕ → List ℕ → List ℕ → Row
row mark given expected = record { mark = mark; holds = same_text given expected }

unfoldable pub all_hold : List Row → Bool
all_hold [] = true
all_hold (r ∷ rs) = r.holds && all_hold rs

-- the cents of the worked example: places 1, 11 and 21
unfoldable pub worked_awards : List ℕ
worked_awards = awards (offer_of terms) (bids_in_book (tender_after worked).book)

unfoldable pub table : List Row
table =
    -- the announcement opens a tender
    row 0 (list_of (opening_refused announcement admission)) []
    -- M1 received 110000 in time, 110001 gives 301
    ∷ row 1 (error_codes (reception 110000 (message 90001 102900 ((120000, 10000) ∷ [])))) []
    ∷ row 1 (error_codes (reception 110001 (message 90001 102900 ((120000, 10000) ∷ [])))) (301 ∷ [])
    -- M2 amount 20000 passes, 25000 gives 906, 9999 gives 905 alone
    ∷ row 2 (found ((120000, 20000) ∷ [])) []
    ∷ row 2 (found ((120000, 25000) ∷ [])) (906 ∷ [])
    ∷ row 2 (found ((120000, 9999) ∷ [])) (905 ∷ [])
    -- M3 rate 00120500 gives 904
    ∷ row 3 (found ((120500, 10000) ∷ [])) (904 ∷ [])
    -- M4 three bids pass, four give 903
    ∷ row 4 (found ((120000, 10000) ∷ (130000, 10000) ∷ (140000, 10000) ∷ [])) []
    ∷ row 4 (found ((120000, 10000) ∷ (130000, 10000) ∷ (140000, 10000) ∷ (150000, 10000) ∷ [])) (903 ∷ [])
    -- M5 rate 00100000 is in, 00099000 out
    ∷ record { mark = 5; holds = is_in (offer_of terms) (bid (100000, 10000)) }
    ∷ record { mark = 5; holds = not (is_in (offer_of terms) (bid (99000, 10000))) }
    -- M6 29022012 is a date, 29022011 not
    ∷ record { mark = 6; holds = valid_date 29022012 }
    ∷ record { mark = 6; holds = not (valid_date 29022011) }
    -- M7 the awards above, and the last reception's 302
    ∷ row 7 worked_awards ((22223 ∷ replicate 9 0) ++ (60000 ∷ replicate 9 0) ++ (17777 ∷ replicate 9 0))
    ∷ row 7 (list_of (allotment terms (bids_in_book (tender_after worked).book)).marginal) (120000 ∷ [])
    ∷ row 7 (answer_after worked (reception 104100 (message 90002 102000 [])) ∷ []) (302 ∷ [])
    -- M8 two bids of 10000 sharing 15000 get 7500 each; stated with that amount offered, since in the tender above every bid is a multiple of 10000
    ∷ row 8 (shared Lp 100000 15000 ((120000, 10000) ∷ (120000, 10000) ∷ [])) (7500 ∷ 7500 ∷ [])
    -- M9 three of 10000 sharing 10000 get 3334, 3333, 3333
    ∷ row 9 (shared Lp 100000 10000 ((120000, 10000) ∷ (120000, 10000) ∷ (120000, 10000) ∷ [])) (3334 ∷ 3333 ∷ 3333 ∷ [])
    -- M10 ten zero places after an application leave no bids
    ∷ row 10 (length (keep filled (bids_in_book (tender_after (reception 103000 (message 90001 102900 ((120000, 10000) ∷ [])) ∷ [])).book)) ∷ []) (1 ∷ [])
    ∷ row 10 (length (keep filled (bids_in_book (tender_after (reception 103000 (message 90001 102900 ((120000, 10000) ∷ [])) ∷ reception 103100 (message 90001 103000 []) ∷ [])).book)) ∷ []) (0 ∷ [])
    ∷ record { mark = 10; holds = cancels (submission terms (reception 103100 (message 90001 103000 []))) }
    ∷ record { mark = 10; holds = not (cancels (submission terms (reception 103100 (message 90001 103000 ((0, 0) ∷ (0, 1) ∷ []))))) }
    -- a cancellation's time is held: an older application is too late, and so is one of the same time
    ∷ row 0 (answer_after (reception 103000 (message 90001 102900 []) ∷ []) (reception 103100 (message 90001 102800 ((120000, 10000) ∷ []))) ∷ []) (302 ∷ [])
    ∷ row 0 (answer_after (reception 103000 (message 90001 102900 []) ∷ []) (reception 103100 (message 90001 102900 ((120000, 10000) ∷ []))) ∷ []) (302 ∷ [])
    -- a later one is confirmed, and its bids replace all ten places
    ∷ row 0 (answer_after (reception 103000 (message 90001 102900 ((130000, 10000) ∷ (120000, 10000) ∷ [])) ∷ []) (reception 103100 (message 90001 103000 ((140000, 20000) ∷ []))) ∷ []) (0 ∷ [])
    ∷ row 0 (map amount (take 10 (bids_in_book (tender_after (reception 103000 (message 90001 102900 ((130000, 10000) ∷ (120000, 10000) ∷ [])) ∷ reception 103100 (message 90001 103000 ((140000, 20000) ∷ [])) ∷ [])).book))) (20000 ∷ replicate 9 0)
    -- in LA the lowest rate is best, and bids above the limit rate are out
    ∷ row 0 (shared La 200000 15000 ((120000, 10000) ∷ (110000, 10000) ∷ (201000, 10000) ∷ [])) (5000 ∷ 10000 ∷ 0 ∷ [])
    ∷ row 0 (list_of (marginal La 200000 15000 ((120000, 10000) ∷ (110000, 10000) ∷ (201000, 10000) ∷ []))) (120000 ∷ [])
    -- in LA a rate of zero is the best, and empty places take no cent from bids at it
    ∷ row 0 (shared La 0 20000 ((0, 0) ∷ (0, 10000) ∷ (0, 10000) ∷ (0, 10000) ∷ [])) (0 ∷ 6667 ∷ 6667 ∷ 6666 ∷ [])
    -- the amount offered met exactly: the rate that meets it is marginal; not met: none
    ∷ row 0 (list_of (marginal Lp 100000 20000 ((130000, 10000) ∷ (120000, 10000) ∷ (110000, 10000) ∷ []))) (120000 ∷ [])
    ∷ row 0 (shared Lp 100000 20000 ((130000, 10000) ∷ (120000, 10000) ∷ (110000, 10000) ∷ [])) (10000 ∷ 10000 ∷ 0 ∷ [])
    ∷ row 0 (list_of (marginal Lp 100000 30001 ((130000, 10000) ∷ (120000, 10000) ∷ (110000, 10000) ∷ []))) []
    -- amounts of fifteen digits, whose product is over 64 bits
    ∷ row 0 (shared Lp 100000 999999999999999 ((120000, 999999999999999) ∷ (120000, 999999999999999) ∷ [])) (500000000000000 ∷ 499999999999999 ∷ [])
    -- a round for each binary digit, and none for zero
    ∷ row 0 ((division 60000 40000 90000).quotient ∷ (division 60000 40000 90000).remainder ∷ (division 60000 40000 90000).count ∷ []) (26666 ∷ 60000 ∷ 16 ∷ [])
    ∷ row 0 ((division 0 40000 90000).quotient ∷ (division 0 40000 90000).count ∷ []) (0 ∷ 0 ∷ [])
    ∷ []

-- the theorem: every row holds
abbrev pub MarkedCases : Type 0
MarkedCases = lib.Dec.T (all_hold table)
