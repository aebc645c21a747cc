-- Rows of document 02's S-5, computed: the awards of two lists, whole. Assumes nothing.
use Rattle.std.specs.Prelude.{List, [], ◌∷◌, ◌++◌, map, ℕ, T}
use Rattle.announcement.specs.declared.Side.{Side}
use Rattle.announcement.specs.declared.Side.TheVariants.{La, Lp}
use Rattle.rules.specs.Allotment.{Offer, awards}
use Rattle.rules.specs.Messages.{Pairs}
use Rattle.rules.specs.Marked.{bid, Row, row, all_hold, shared}
use Rattle.steadiness.specs.Steadiness.{raised_at}

-- so much offered, with the limit rate of the cases: 1 % in LP and 2 % in LA
unfoldable pub offering : Side → ℕ → Offer
offering La q = record { side = La; limit = 200000; offered = q }
offering Lp q = record { side = Lp; limit = 100000; offered = q }

-- the awards of a list of bids, and those of the list with the bid at a place raised by d behind them
unfoldable pub both_awards : Offer → Pairs → ℕ → ℕ → List ℕ
both_awards o ps place d = awards o (map bid ps) ++ awards o (raised_at place d (map bid ps))

unfoldable pub steadiness_rows : List Row
steadiness_rows =
    -- one eurocent more, and the other bid at the rate loses all it had: 1 and 1 become 2 and 0
    row 5 (both_awards (offering Lp 2) ((120000, 1) ∷ (120000, 1) ∷ []) 0 1) (1 ∷ 1 ∷ 2 ∷ 0 ∷ [])
    ∷ row 5 (both_awards (offering La 2) ((120000, 1) ∷ (120000, 1) ∷ []) 0 1) (1 ∷ 1 ∷ 2 ∷ 0 ∷ [])
    -- the cent goes by book order: raised at the second place, it takes nothing from the first
    ∷ row 5 (both_awards (offering Lp 2) ((120000, 1) ∷ (120000, 1) ∷ []) 1 1) (1 ∷ 1 ∷ 1 ∷ 1 ∷ [])
    -- at one rate, two and three eurocents more take as many from another
    ∷ row 5 (both_awards (offering Lp 5) ((120000, 1) ∷ (120000, 4) ∷ []) 0 2) (1 ∷ 4 ∷ 3 ∷ 2 ∷ [])
    ∷ row 5 (both_awards (offering Lp 10) ((120000, 1) ∷ (120000, 9) ∷ []) 0 3) (1 ∷ 9 ∷ 4 ∷ 6 ∷ [])
    -- another award rises by a cent
    ∷ row 5 (both_awards (offering Lp 2) ((120000, 1) ∷ (120000, 1) ∷ (120000, 2) ∷ []) 0 1) (1 ∷ 0 ∷ 1 ∷ 1 ∷ 1 ∷ 0 ∷ [])
    -- raised at a better rate: those at the marginal rate share what is left
    ∷ row 5 (both_awards (offering Lp 20) ((130000, 10) ∷ (120000, 10) ∷ (120000, 10) ∷ []) 0 3) (10 ∷ 5 ∷ 5 ∷ 13 ∷ 4 ∷ 3 ∷ [])
    ∷ row 5 (both_awards (offering La 20) ((110000, 10) ∷ (120000, 10) ∷ (120000, 10) ∷ []) 0 3) (10 ∷ 5 ∷ 5 ∷ 13 ∷ 4 ∷ 3 ∷ [])
    -- the marginal rate becomes a better one: one bid is served no more, and another shared that was served in full
    ∷ row 5 (both_awards (offering Lp 25) ((130000, 10) ∷ (120000, 10) ∷ (110000, 10) ∷ []) 0 6) (10 ∷ 10 ∷ 5 ∷ 16 ∷ 9 ∷ 0 ∷ [])
    ∷ row 5 (both_awards (offering La 25) ((110000, 10) ∷ (120000, 10) ∷ (130000, 10) ∷ []) 0 6) (10 ∷ 10 ∷ 5 ∷ 16 ∷ 9 ∷ 0 ∷ [])
    -- the amount offered is reached only once the bid is raised
    ∷ row 5 (both_awards (offering Lp 25) ((120000, 10) ∷ (110000, 10) ∷ []) 0 10) (10 ∷ 10 ∷ 20 ∷ 5 ∷ [])
    ∷ row 5 (both_awards (offering La 25) ((120000, 10) ∷ (130000, 10) ∷ []) 0 10) (10 ∷ 10 ∷ 20 ∷ 5 ∷ [])
    -- raised at a worse rate, or outside the limit rate, it moves no other
    ∷ row 5 (both_awards (offering Lp 15) ((110000, 10) ∷ (120000, 10) ∷ []) 0 5) (5 ∷ 10 ∷ 5 ∷ 10 ∷ [])
    ∷ row 5 (both_awards (offering La 15) ((130000, 10) ∷ (120000, 10) ∷ []) 0 5) (5 ∷ 10 ∷ 5 ∷ 10 ∷ [])
    ∷ row 5 (both_awards (offering Lp 15) ((99000, 10) ∷ (120000, 10) ∷ (110000, 10) ∷ []) 0 7) (0 ∷ 10 ∷ 5 ∷ 0 ∷ 10 ∷ 5 ∷ [])
    ∷ row 5 (both_awards (offering La 15) ((201000, 10) ∷ (120000, 10) ∷ (130000, 10) ∷ []) 0 7) (0 ∷ 10 ∷ 5 ∷ 0 ∷ 10 ∷ 5 ∷ [])
    -- amounts of fifteen digits
    ∷ row 5 (both_awards (offering Lp 999999999999999) ((120000, 1) ∷ (110000, 999999999999998) ∷ []) 0 999999999999998)
    (1 ∷ 999999999999998 ∷ 999999999999999 ∷ 0 ∷ [])
    -- 'equal but for one bid's amount': where its rate is another as well, one eurocent more moves another award by ten
    ∷ row 5 (shared Lp 100000 10 ((130000, 10) ∷ (120000, 10) ∷ [])) (10 ∷ 0 ∷ [])
    ∷ row 5 (shared Lp 100000 10 ((110000, 11) ∷ (120000, 10) ∷ [])) (0 ∷ 10 ∷ [])
    ∷ []

-- the theorem: every row holds
abbrev pub SteadinessRowsHold : Type 0
SteadinessRowsHold = T (all_hold steadiness_rows)
