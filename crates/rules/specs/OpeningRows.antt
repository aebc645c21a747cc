-- Rows for the refusals of opening and for the terms that it takes; the tender is that of the marked cases. Assumes nothing.
use Rattle.std.specs.Prelude.{not, List, [], ◌∷◌, ◌++◌, ℕ, drop, replicate, take}
use Rattle.texts.specs.Texts.{ascii}
use Rattle.announcement.specs.declared.Field.{Field}
use Rattle.announcement.specs.declared.Field.TheVariants.{MessageType, Sender, Recipient, Cro, Date, Time, Identifier, TenderType, SpotDate, ForwardDate, Cutoff}
use Rattle.rules.specs.Allotment.{is_in}
use Rattle.rules.specs.Opening.{Admission, admitting, uncapped, Terms, opening_refused, terms_of, offer_of}
use Rattle.rules.specs.Calls.{open_tender}
use Rattle.rules.specs.Messages.{◌is◌, Part, Execution, Most, Offered, Minimum, Increment, Maximum, Allocation, Limit, announcement_with, announcement, admitted, admission, message}
use Rattle.rules.specs.Marked.{Row, row, list_of, bid}

-- the refusal of opening: of some bytes, and of the announcement with some texts altered
abbrev pub opening : List ℕ → List ℕ → List ℕ
opening m codes = list_of (opening_refused m (uncapped codes))

abbrev pub opening_with : List (Field × List ℕ) → List (Part × List ℕ) → List ℕ
opening_with fields parts = opening (announcement_with fields parts) admitted

-- the same with limits
abbrev pub limited_in : List (Field × List ℕ) → List ℕ → List ℕ → List ℕ
limited_in fields codes limits = list_of (opening_refused (announcement_with fields []) (admitting codes limits))

abbrev pub limited : List ℕ → List ℕ → List ℕ
limited codes limits = limited_in [] codes limits

-- 65 codes that rise
unfoldable pub rising65 : List ℕ
rising65 =
    0 ∷ 1 ∷ 2 ∷ 3 ∷ 4 ∷ 5 ∷ 6 ∷ 7 ∷ 8 ∷ 9 ∷ 10 ∷ 11 ∷ 12 ∷ 13 ∷ 14 ∷ 15 ∷ 16 ∷ 17 ∷ 18 ∷ 19 ∷ 20 ∷ 21 ∷ 22 ∷ 23 ∷ 24 ∷ 25 ∷ 26 ∷ 27 ∷ 28 ∷ 29 ∷ 30 ∷ 31 ∷ 32 ∷ 33 ∷ 34 ∷ 35 ∷ 36 ∷ 37 ∷ 38 ∷ 39 ∷ 40 ∷ 41 ∷ 42 ∷ 43 ∷ 44 ∷ 45 ∷ 46 ∷ 47 ∷ 48 ∷ 49 ∷ 50 ∷ 51 ∷ 52 ∷ 53 ∷ 54 ∷ 55 ∷ 56 ∷ 57 ∷ 58 ∷ 59 ∷ 60 ∷ 61 ∷ 62 ∷ 63 ∷ 64 ∷ []

-- each condition by itself, and beside it what just passes
unfoldable pub opening_rows : List Row
opening_rows =
    row 1 (opening ((0x02 ∷ []) ++ drop 1 announcement) admitted) (1 ∷ [])
    ∷ row 1 (opening (announcement ++ (0 ∷ [])) admitted) (1 ∷ [])
    ∷ row 1 (opening (take 224 announcement) admitted) (1 ∷ [])
    ∷ row 1 (opening_with (Sender is "0100" ∷ []) []) (1 ∷ [])
    -- the addresses of an announcement 'stay at 5'
    ∷ row 1 (opening_with (Sender is "01000/00000/AA" ∷ []) []) (1 ∷ [])
    ∷ row 1 (opening_with (Recipient is "90001/00000/AA" ∷ []) []) (1 ∷ [])
    ∷ row 1 (opening (message 90001 102900 []) admitted) (1 ∷ [])
    ∷ row 2 (opening_with (MessageType is "6G1" ∷ []) []) (2 ∷ [])
    ∷ row 2 (opening_with (Sender is "01001" ∷ []) []) (2 ∷ [])
    ∷ row 3 (opening_with (Recipient is "9 001" ∷ []) []) (3 ∷ [])
    ∷ row 3 (opening_with (Cro is "0000000000:" ∷ []) []) (3 ∷ [])
    ∷ row 3 (opening_with (Date is "42032012" ∷ []) []) (3 ∷ [])
    ∷ row 3 (opening_with (Time is "093060" ∷ []) []) (3 ∷ [])
    ∷ row 3 (opening_with (Identifier is "t/2012/0001" ∷ []) []) (3 ∷ [])
    ∷ row 3 (opening_with (Identifier is "T/2012-0001" ∷ []) []) (3 ∷ [])
    ∷ row 3 (opening_with [] (Execution is "42032012" ∷ [])) (3 ∷ [])
    ∷ row 3 (opening_with [] (Most is " 3" ∷ [])) (3 ∷ [])
    ∷ row 3 (opening_with [] (Offered is "00000000010000A" ∷ [])) (3 ∷ [])
    ∷ row 3 (opening_with [] (Allocation is "              0" ∷ [])) (3 ∷ [])
    ∷ row 3 (opening_with [] (Limit is "0100,000" ∷ [])) (3 ∷ [])
    -- a slash out of its place
    ∷ row 3 (opening_with [] (Execution is "120320120" ∷ Most is "3" ∷ [])) (3 ∷ [])
    ∷ row 3 (opening_with (SpotDate is "44032012" ∷ []) []) (3 ∷ [])
    ∷ row 3 (opening_with (ForwardDate is "1503 012" ∷ []) []) (3 ∷ [])
    ∷ row 3 (opening_with (Cutoff is "240000" ∷ []) []) (3 ∷ [])
    ∷ row 3 (opening_with (Cutoff is "11:000" ∷ []) []) (3 ∷ [])
    ∷ row 4 (opening_with (TenderType is "NC/FD/LX/R/Y/VR/MR" ∷ []) []) (4 ∷ [])
    ∷ row 4 (opening_with (TenderType is "NC/FD/LP/R/Y/VR/SR" ∷ []) []) (4 ∷ [])
    ∷ row 4 (opening_with (TenderType is "NC/FD/LP/R/X/VR/MR" ∷ []) []) (4 ∷ [])
    ∷ row 4 (opening_with (TenderType is "NC/FD/LA/R/Y/VR/MR" ∷ []) []) []
    ∷ row 4 (opening_with (TenderType is "NC/FD/LA/R/N/VR/MR" ∷ []) []) []
    ∷ row 4 (opening_with (TenderType is "NC/FD/LP/R/N/VR/MR" ∷ []) []) []
    ∷ row 5 (opening_with [] (Most is "00" ∷ [])) (5 ∷ [])
    ∷ row 5 (opening_with [] (Most is "01" ∷ [])) []
    ∷ row 5 (opening_with [] (Most is "10" ∷ [])) []
    ∷ row 5 (opening_with [] (Most is "11" ∷ [])) (5 ∷ [])
    ∷ row 5 (opening_with [] (Offered is "000000000000000" ∷ [])) (5 ∷ [])
    ∷ row 5 (opening_with [] (Minimum is "000000000000000" ∷ [])) (5 ∷ [])
    ∷ row 5 (opening_with [] (Increment is "000000000000000" ∷ [])) (5 ∷ [])
    ∷ row 5 (opening_with [] (Maximum is "000000000009999" ∷ [])) (5 ∷ [])
    ∷ row 5 (opening_with [] (Maximum is "000000000010000" ∷ [])) []
    ∷ row 5 (opening_with [] (Minimum is "000000000020000" ∷ Maximum is "000000000019999" ∷ [])) (5 ∷ [])
    ∷ row 6 (opening_with (Date is "13032012" ∷ []) []) (6 ∷ [])
    ∷ row 6 (opening_with (Date is "31122011" ∷ []) []) []
    ∷ row 6 (opening_with (SpotDate is "11032012" ∷ []) []) (6 ∷ [])
    ∷ row 6 (opening_with (SpotDate is "12032012" ∷ []) []) []
    ∷ row 6 (opening_with (ForwardDate is "14032012" ∷ []) []) (6 ∷ [])
    ∷ row 6 (opening_with (ForwardDate is "01042012" ∷ []) []) []
    ∷ row 7 (opening announcement []) (7 ∷ [])
    ∷ row 7 (opening announcement rising65) (7 ∷ [])
    ∷ row 7 (opening announcement (take 64 rising65)) []
    ∷ row 7 (opening announcement (90001 ∷ 90001 ∷ [])) (7 ∷ [])
    ∷ row 7 (opening announcement (90002 ∷ 90003 ∷ 90001 ∷ [])) (7 ∷ [])
    ∷ row 7 (opening announcement (90001 ∷ 100000 ∷ [])) (7 ∷ [])
    ∷ row 7 (opening announcement (0 ∷ 99999 ∷ [])) []
    ∷ row 19 (limited admitted []) (19 ∷ [])
    ∷ row 19 (limited admitted (0 ∷ 0 ∷ [])) (19 ∷ [])
    ∷ row 19 (limited admitted (0 ∷ 0 ∷ 0 ∷ 0 ∷ [])) (19 ∷ [])
    ∷ row 20 (limited admitted (0 ∷ 1000000000000000 ∷ 0 ∷ [])) (20 ∷ [])
    ∷ row 20 (limited admitted (0 ∷ 0 ∷ 1000000000000000 ∷ [])) (20 ∷ [])
    ∷ row 20 (limited admitted (999999999999999 ∷ 1 ∷ 0 ∷ [])) []
    ∷ row 19 (limited (take 64 rising65) (replicate 63 0)) (19 ∷ [])
    ∷ row 20 (limited (take 64 rising65) (replicate 63 0 ++ (1000000000000000 ∷ []))) (20 ∷ [])
    ∷ row 20 (limited (take 64 rising65) (replicate 63 0 ++ (999999999999999 ∷ []))) []
    -- in LA too
    ∷ row 19 (limited_in (TenderType is "NC/FD/LA/R/Y/VR/MR" ∷ []) admitted (1 ∷ [])) (19 ∷ [])
    ∷ row 20 (limited_in (TenderType is "NC/FD/LA/R/Y/VR/MR" ∷ []) admitted (1000000000000000 ∷ 0 ∷ 0 ∷ [])) (20 ∷ [])
    ∷ row 20 (limited_in (TenderType is "NC/FD/LA/R/Y/VR/MR" ∷ []) admitted (1 ∷ 999999999999999 ∷ 0 ∷ [])) []
    ∷ []

-- 'returns the number of the first': two neighbouring conditions at once
unfoldable pub opening_order_rows : List Row
opening_order_rows =
    row 1 (opening (announcement_with (MessageType is "6G1" ∷ []) [] ++ (0 ∷ [])) admitted) (1 ∷ [])
    ∷ row 2 (opening_with (Sender is "01001" ∷ Recipient is "9 001" ∷ []) []) (2 ∷ [])
    ∷ row 3 (opening_with (Recipient is "9 001" ∷ TenderType is "NC/FD/LP/R/Y/VR/SR" ∷ []) []) (3 ∷ [])
    ∷ row 4 (opening_with (TenderType is "NC/FD/LP/R/Y/VR/SR" ∷ []) (Most is "11" ∷ [])) (4 ∷ [])
    ∷ row 5 (opening_with (Date is "13032012" ∷ []) (Most is "11" ∷ [])) (5 ∷ [])
    ∷ row 6 (opening (announcement_with (Date is "13032012" ∷ []) []) []) (6 ∷ [])
    ∷ row 7 (limited (90002 ∷ 90001 ∷ []) (0 ∷ [])) (7 ∷ [])
    ∷ row 7 (limited (90002 ∷ 90001 ∷ []) (0 ∷ 1000000000000000 ∷ [])) (7 ∷ [])
    ∷ row 19 (limited admitted (1000000000000000 ∷ [])) (19 ∷ [])
    ∷ []

-- an announcement byte by byte, each tag and length a number; no two of its numbers are the same
unfoldable pub literal6_g0 : List ℕ
literal6_g0 =
    (0x01 ∷ 0 ∷ 3 ∷ []) ++ ascii "6G0"
    ++ (0x04 ∷ 0 ∷ 5 ∷ []) ++ ascii "01000"
    ++ (0x05 ∷ 0 ∷ 5 ∷ []) ++ ascii "90001"
    ++ (0x02 ∷ 0 ∷ 11 ∷ []) ++ ascii "00000000017"
    ++ (0x31 ∷ 0 ∷ 8 ∷ []) ++ ascii "09032012"
    ++ (0x60 ∷ 0 ∷ 6 ∷ []) ++ ascii "093000"
    ++ (0x70 ∷ 0 ∷ 11 ∷ []) ++ ascii "T/2012/0042"
    ++ (0x71 ∷ 0 ∷ 18 ∷ []) ++ ascii "NC/FD/LA/R/N/VR/MR"
    ++ (0x72 ∷ 0 ∷ 100 ∷ []) ++ ascii "12032012/04/000000000900000/000000000020000/000000000003000/000000000080000/000000000001000/00150000"
    ++ (0x73 ∷ 0 ∷ 8 ∷ []) ++ ascii "14032012"
    ++ (0x74 ∷ 0 ∷ 8 ∷ []) ++ ascii "16032012"
    ++ (0x75 ∷ 0 ∷ 6 ∷ []) ++ ascii "110000"

-- the same by the layout
unfoldable pub built6_g0 : List ℕ
built6_g0 =
    announcement_with
    (Cro is "00000000017" ∷ Date is "09032012" ∷ Identifier is "T/2012/0042" ∷ TenderType is "NC/FD/LA/R/N/VR/MR" ∷ ForwardDate is "16032012" ∷ [])
    (Most is "04" ∷ Offered is "000000000900000" ∷ Minimum is "000000000020000" ∷ Increment is "000000000003000" ∷ Maximum is "000000000080000" ∷ Allocation is "000000000001000" ∷ Limit is "00150000" ∷ [])

-- the numbers of a tender's terms
unfoldable pub term_numbers : Terms → List ℕ
term_numbers t =
    t.execution ∷ t.cut_off ∷ t.most ∷ t.offered ∷ t.minimum ∷ t.increment ∷ t.maximum ∷ t.allocation ∷ t.limit ∷ (t.admission.codes ++ t.admission.limits)

unfoldable pub term_rows : List Row
term_rows =
    row 225 literal6_g0 built6_g0
    ∷ row 225 (opening literal6_g0 admitted) []
    ∷ row 225 (term_numbers (terms_of literal6_g0 (admitting admitted (7 ∷ 0 ∷ 5 ∷ []))))
    (12032012 ∷ 110000 ∷ 4 ∷ 900000 ∷ 20000 ∷ 3000 ∷ 80000 ∷ 1000 ∷ 150000 ∷ 90001 ∷ 90002 ∷ 90003 ∷ 7 ∷ 0 ∷ 5 ∷ [])
    ∷ row 225 (terms_of literal6_g0 admission).identifier (ascii "T/2012/0042")
    -- it is LA: a bid above the limit rate is out
    ∷ record { mark = 225; holds = is_in (offer_of (terms_of literal6_g0 admission)) (bid (149000, 20000)) }
    ∷ record { mark = 225; holds = not (is_in (offer_of (terms_of literal6_g0 admission)) (bid (151000, 20000))) }
    -- a refused opening gives no terms
    ∷ row 0 (term_numbers (open_tender [] admission).1.terms) (replicate 9 0)
    ∷ row 0 (open_tender [] admission).1.terms.identifier (replicate 11 0)
    ∷ []
