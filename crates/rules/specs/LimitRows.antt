-- Rows of whole allotments with credit limits (document 02, S-2): bids as cut, awards and marginal rate, and a session of calls. Assumes nothing.
use Rattle.std.specs.Prelude.{List, [], ◌∷◌, ◌++◌, map, ℕ, T, replicate, take}
use Rattle.std.proofs.Math.Option.{none}
use Rattle.announcement.specs.declared.Field.TheVariants.{TenderType}
use Rattle.announcement.specs.declared.Side.{Side}
use Rattle.announcement.specs.declared.Side.TheVariants.{La, Lp}
use Rattle.rules.specs.Allotment.{Bid, no_bid, sum}
use Rattle.rules.specs.Opening.{Admission, admitting, Terms, offer_of}
use Rattle.rules.specs.Calls.{Closed, Tender, open_tender, receive, close, allot, Allotted, allotting_refused, bids_taken, allotment}
use Rattle.rules.specs.ArrivalOrder.{receive_all}
use Rattle.rules.specs.Messages.{◌is◌, Offered, Limit, announcement_with, announcement, admitted, Pairs, message, reception}
use Rattle.rules.specs.Marked.{bid, rate, amount, Row, row, all_hold, list_of}

-- a tender's side, limit rate and amount offered, and the credit limits of the codes admitted to it
unfoldable pub limited_to : Side → ℕ → ℕ → List ℕ → Terms
limited_to side limit offered limits =
    record {
      identifier = [];
      side = side;
      execution = 0;
      cut_off = 0;
      most = 10;
      offered = offered;
      minimum = 1;
      increment = 1;
      maximum = 0;
      allocation = 0;
      limit = limit;
      admission = admitting [] limits;
    }

-- the bids of codes, ten places each
unfoldable pub places : List Pairs → List Bid
places [] = []
places (ps ∷ rest) = take 10 (map bid ps ++ replicate 10 no_bid) ++ places rest

-- awards, ten places each
unfoldable pub tens : List (List ℕ) → List ℕ
tens [] = []
tens (xs ∷ rest) = take 10 (xs ++ replicate 10 0) ++ tens rest

-- rates and amounts of one code's bids as they are taken
unfoldable pub cut_rates : Side → ℕ → Pairs → List ℕ
cut_rates side cap ps = map rate (bids_taken (limited_to side 100000 100 (cap ∷ [])) (map bid ps))

unfoldable pub cut_amounts : Side → ℕ → Pairs → List ℕ
cut_amounts side cap ps = map amount (bids_taken (limited_to side 100000 100 (cap ∷ [])) (map bid ps))

-- the awards and the marginal rate of two codes, after each other
unfoldable pub two_codes : Terms → Pairs → Pairs → List ℕ
two_codes t a b = take 20 (allotment t (places (a ∷ b ∷ []))).awards ++ list_of (allotment t (places (a ∷ b ∷ []))).marginal

-- the awards of 64 codes of which the fourth and the last bid 100
unfoldable pub many_awards : ℕ → List ℕ → List ℕ
many_awards offered limits =
    (allotment (limited_to Lp 100000 offered limits) (places (replicate 3 [] ++ (((120000, 100) ∷ []) ∷ []) ++ replicate 59 [] ++ (((120000, 100) ∷ []) ∷ [])))).awards

unfoldable pub cut_rows : List Row
cut_rows =
    -- best first, whatever the place
    row 2 (cut_amounts Lp 40 ((110000, 30) ∷ (120000, 30) ∷ [])) (10 ∷ 30 ∷ [])
    -- equal rates by place
    ∷ row 2 (cut_amounts Lp 40 ((120000, 30) ∷ (120000, 30) ∷ [])) (30 ∷ 10 ∷ [])
    ∷ row 2 (cut_amounts Lp 45 ((120000, 20) ∷ (130000, 20) ∷ (120000, 20) ∷ [])) (20 ∷ 20 ∷ 5 ∷ [])
    -- where a bid does not fit, no smaller one after it is taken
    ∷ row 2 (cut_amounts Lp 60 ((130000, 50) ∷ (120000, 100) ∷ (110000, 10) ∷ [])) (50 ∷ 10 ∷ 0 ∷ [])
    -- the cap met exactly, and by a bid before the last
    ∷ row 2 (cut_amounts Lp 40 ((120000, 30) ∷ (110000, 10) ∷ [])) (30 ∷ 10 ∷ [])
    ∷ row 2 (cut_amounts Lp 30 ((120000, 30) ∷ (110000, 10) ∷ [])) (30 ∷ 0 ∷ [])
    -- a bid cut to zero has no rate; one cut to less keeps its own
    ∷ row 2 (cut_rates Lp 10 ((120000, 10) ∷ (120000, 10) ∷ [])) (120000 ∷ 0 ∷ [])
    ∷ row 2 (cut_rates Lp 40 ((110000, 30) ∷ (120000, 30) ∷ [])) (110000 ∷ 120000 ∷ [])
    -- bids outside the limit rate use nothing of the cap, and stay
    ∷ row 2 (cut_amounts Lp 40 ((99000, 30) ∷ (100000, 50) ∷ [])) (30 ∷ 40 ∷ [])
    -- nothing is cut in LA, nor by a limit of zero
    ∷ row 2 (cut_amounts La 40 ((90000, 30) ∷ (80000, 30) ∷ [])) (30 ∷ 30 ∷ [])
    ∷ row 2 (cut_amounts Lp 0 ((120000, 30) ∷ (120000, 30) ∷ [])) (30 ∷ 30 ∷ [])
    -- the highest limit
    ∷ row 2 (cut_amounts Lp 999999999999999 ((120000, 1) ∷ (130000, 999999999999999) ∷ [])) (0 ∷ 999999999999999 ∷ [])
    ∷ row 2 (cut_amounts Lp 999999999999999 ((120000, 2) ∷ (130000, 999999999999998) ∷ [])) (1 ∷ 999999999999998 ∷ [])
    -- all ten places are walked, the tenth among them
    ∷ row 2 (cut_amounts Lp 55 (replicate 9 (120000, 10) ++ ((130000, 10) ∷ []))) (10 ∷ 10 ∷ 10 ∷ 10 ∷ 5 ∷ 0 ∷ 0 ∷ 0 ∷ 0 ∷ 10 ∷ [])
    -- a rate of zero is one, where the limit rate is zero
    ∷ row 2 (map amount (bids_taken (limited_to Lp 0 100 (40 ∷ [])) (map bid ((0, 30) ∷ (120000, 30) ∷ [])))) (10 ∷ 30 ∷ [])
    ∷ []

-- the awards of ten places of each of two codes, and the marginal rate, if there is one
unfoldable pub whole_rows : List Row
whole_rows =
    -- the bids are cut, and not the awards: 40 and 100 share 100
    row 2 (two_codes (limited_to Lp 100000 100 (40 ∷ 0 ∷ [])) ((120000, 100) ∷ []) ((120000, 100) ∷ [])) (tens ((29 ∷ []) ∷ (71 ∷ []) ∷ []) ++ (120000 ∷ []))
    -- each code has its own limit
    ∷ row 2 (two_codes (limited_to Lp 100000 100 (0 ∷ 40 ∷ [])) ((120000, 100) ∷ []) ((120000, 100) ∷ [])) (tens ((72 ∷ []) ∷ (28 ∷ []) ∷ []) ++ (120000 ∷ []))
    -- a bid cut to zero takes no leftover cent: 11 shared by 10, 10 and 10
    ∷ row 2 (two_codes (limited_to Lp 100000 11 (10 ∷ 0 ∷ [])) ((120000, 10) ∷ (120000, 10) ∷ []) ((120000, 10) ∷ (120000, 10) ∷ [])) (tens ((4 ∷ 0 ∷ []) ∷ (4 ∷ 3 ∷ []) ∷ []) ++ (120000 ∷ []))
    -- the marginal rate is that of the cut bids; uncut it is another
    ∷ row 2 (two_codes (limited_to Lp 100000 100 (40 ∷ 0 ∷ [])) ((120000, 100) ∷ []) ((110000, 100) ∷ [])) (tens ((40 ∷ []) ∷ (60 ∷ []) ∷ []) ++ (110000 ∷ []))
    ∷ row 2 (two_codes (limited_to Lp 100000 100 (0 ∷ 0 ∷ [])) ((120000, 100) ∷ []) ((110000, 100) ∷ [])) (tens ((100 ∷ []) ∷ (0 ∷ []) ∷ []) ++ (120000 ∷ []))
    -- the amount offered is reached uncut, and not by the cut bids
    ∷ row 2 (two_codes (limited_to Lp 100000 100 (40 ∷ 50 ∷ [])) ((120000, 100) ∷ []) ((110000, 100) ∷ [])) (tens ((40 ∷ []) ∷ (50 ∷ []) ∷ []))
    -- limits in LA
    ∷ row 2 (two_codes (limited_to La 130000 100 (40 ∷ 50 ∷ [])) ((120000, 100) ∷ []) ((110000, 100) ∷ [])) (tens ((0 ∷ []) ∷ (100 ∷ []) ∷ []) ++ (110000 ∷ []))
    -- source document 002, example 2.c: 760 million awarded, and document 01's marginal rate is none; its rates are rounded to two decimals
    ∷ row 2 (two_codes (limited_to Lp 81700 100000000000 (0 ∷ 25000000000 ∷ [])) ((171000, 1000000000) ∷ (131000, 50000000000) ∷ (80000, 1000000000) ∷ []) ((131000, 29000000000) ∷ (112000, 15000000000) ∷ (106000, 10000000000) ∷ []))
    (tens ((1000000000 ∷ 50000000000 ∷ 0 ∷ []) ∷ (25000000000 ∷ 0 ∷ 0 ∷ []) ∷ []))
    -- of 64 codes the fourth and the last are capped, and each bids 100
    ∷ row 2 (many_awards 200 (replicate 3 0 ++ (40 ∷ []) ++ replicate 59 0 ++ (50 ∷ []))) (tens (replicate 3 [] ++ ((40 ∷ []) ∷ []) ++ replicate 59 [] ++ ((50 ∷ []) ∷ [])))
    ∷ row 2 (sum (two_codes (limited_to Lp 81700 100000000000 (0 ∷ 25000000000 ∷ [])) ((171000, 1000000000) ∷ (131000, 50000000000) ∷ (80000, 1000000000) ∷ []) ((131000, 29000000000) ∷ (112000, 15000000000) ∷ (106000, 10000000000) ∷ [])) ∷ []) (76000000000 ∷ [])
    ∷ []

-- the tender of the marked cases, with limits: opened, two applications received, closed
unfoldable pub limited_tender : List ℕ → List ℕ → Tender
limited_tender m limits =
    (close
    (receive_all (open_tender m (admitting admitted limits)).1
    (reception 103000 (message 90001 102900 ((120000, 60000) ∷ (120000, 40000) ∷ [])) ∷ reception 103100 (message 90003 103000 ((120000, 100000) ∷ [])) ∷ []))
    12032012 110001).1

-- what allotting it gives: the refusal, the awards of thirty places and the marginal rate
unfoldable pub limited_awards : List ℕ → List ℕ → List ℕ
limited_awards m limits =
    list_of (allot (limited_tender m limits)).0 ++ take 30 (allot (limited_tender m limits)).2.awards ++ list_of (allot (limited_tender m limits)).2.marginal

-- one bid of a closed tender over what condition 16 allows, cut by the limit to less
unfoldable pub exceeding_uncut : Tender
exceeding_uncut = record { terms = limited_to Lp 100000 100 (40 ∷ []); state = Closed; book = record { code = 0; held = none; bids = record { rate = 120000; amount = 1000000000000000000 } ∷ [] } ∷ [] }

unfoldable pub called_rows : List Row
called_rows =
    -- 40000 of 90001 and 100000 of 90003 share 100000
    row 2 (limited_awards announcement (40000 ∷ 0 ∷ 0 ∷ [])) (tens ((28572 ∷ []) ∷ [] ∷ (71428 ∷ []) ∷ []) ++ (120000 ∷ []))
    -- what is left below the minimum stays: 5000 of the second bid of 90001
    ∷ row 2 (limited_awards announcement (65000 ∷ 0 ∷ 5000 ∷ [])) (tens ((60000 ∷ 5000 ∷ []) ∷ [] ∷ (5000 ∷ []) ∷ []))
    -- the limits of the other codes cut nothing of theirs
    ∷ row 2 (limited_awards announcement (0 ∷ 1 ∷ 0 ∷ [])) (tens ((30000 ∷ 20000 ∷ []) ∷ [] ∷ (50000 ∷ []) ∷ []) ++ (120000 ∷ []))
    -- in LA nothing is cut
    ∷ row 2 (limited_awards (announcement_with (TenderType is "NC/FD/LA/R/Y/VR/MR" ∷ []) (Limit is "00120000" ∷ [])) (40000 ∷ 1 ∷ 1 ∷ [])) (tens ((30000 ∷ 20000 ∷ []) ∷ [] ∷ (50000 ∷ []) ∷ []) ++ (120000 ∷ []))
    -- refusal 16 looks at the bids in the book, and not at the cut ones
    ∷ row 16 (list_of (allotting_refused exceeding_uncut)) (16 ∷ [])
    ∷ []

-- the theorem: every row holds
abbrev pub LimitRowsHold : Type 0
LimitRowsHold = T (all_hold (cut_rows ++ whole_rows ++ called_rows))
