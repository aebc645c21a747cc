-- Rows of the walk of document 02's S-2, computed. Assumes nothing.
use Rattle.std.specs.Prelude.{List, [], ◌∷◌, map, ℕ, T}
use Rattle.announcement.specs.declared.Side.TheVariants.{Lp}
use Rattle.rules.specs.Allotment.{Offer}
use Rattle.rules.specs.Messages.{Pairs}
use Rattle.rules.specs.Marked.{bid, rate, amount, Row, row, all_hold}
use Rattle.credit_limits.specs.Walk.{walked_bids}

-- 'In LP tenders', with a limit rate of one per cent
abbrev pub investment : Offer
investment = record { side = Lp; limit = 100000; offered = 100 }

-- 'each counterparty's bids .. are walked': amounts and rates of one counterparty's bids after the walk to its cap
unfoldable pub walked_amounts : ℕ → Pairs → List ℕ
walked_amounts cap ps = map amount (walked_bids investment cap (map bid ps))

unfoldable pub walked_rates : ℕ → Pairs → List ℕ
walked_rates cap ps = map rate (walked_bids investment cap (map bid ps))

-- 'walked best first, equal rates by place, and each is cut, only where needed and no further': clause by clause
unfoldable pub walk_rows : List Row
walk_rows =
    -- best first, whatever the place
    row 2 (walked_amounts 40 ((110000, 30) ∷ (120000, 30) ∷ [])) (10 ∷ 30 ∷ [])
    ∷ row 2 (walked_amounts 60 ((110000, 30) ∷ (130000, 30) ∷ (120000, 20) ∷ [])) (10 ∷ 30 ∷ 20 ∷ [])
    -- equal rates by place
    ∷ row 2 (walked_amounts 40 ((120000, 30) ∷ (120000, 30) ∷ [])) (30 ∷ 10 ∷ [])
    ∷ row 2 (walked_amounts 45 ((120000, 20) ∷ (130000, 20) ∷ (120000, 20) ∷ [])) (20 ∷ 20 ∷ 5 ∷ [])
    -- where a bid does not fit, no smaller one after it is taken
    ∷ row 2 (walked_amounts 60 ((130000, 50) ∷ (120000, 100) ∷ (110000, 10) ∷ [])) (50 ∷ 10 ∷ 0 ∷ [])
    -- the cap met exactly, and by a bid before the last
    ∷ row 2 (walked_amounts 40 ((120000, 30) ∷ (110000, 10) ∷ [])) (30 ∷ 10 ∷ [])
    ∷ row 2 (walked_amounts 30 ((120000, 30) ∷ (110000, 10) ∷ [])) (30 ∷ 0 ∷ [])
    -- the highest limit
    ∷ row 2 (walked_amounts 999999999999999 ((120000, 1) ∷ (130000, 999999999999999) ∷ [])) (0 ∷ 999999999999999 ∷ [])
    ∷ row 2 (walked_amounts 999999999999999 ((120000, 2) ∷ (130000, 999999999999998) ∷ [])) (1 ∷ 999999999999998 ∷ [])
    -- a bid cut to zero has no rate; one cut to less keeps its own
    ∷ row 2 (walked_rates 10 ((120000, 10) ∷ (120000, 10) ∷ [])) (120000 ∷ 0 ∷ [])
    ∷ row 2 (walked_rates 40 ((110000, 30) ∷ (120000, 30) ∷ [])) (110000 ∷ 120000 ∷ [])
    -- bids outside the limit rate use nothing of the cap, and stay
    ∷ row 2 (walked_amounts 40 ((99000, 30) ∷ (100000, 50) ∷ [])) (30 ∷ 40 ∷ [])
    ∷ row 2 (walked_rates 40 ((99000, 30) ∷ (100000, 50) ∷ [])) (99000 ∷ 100000 ∷ [])
    -- empty places stay empty
    ∷ row 2 (walked_amounts 40 ((0, 0) ∷ (120000, 50) ∷ (0, 0) ∷ [])) (0 ∷ 40 ∷ 0 ∷ [])
    ∷ []

-- the theorem: every row holds
abbrev pub WalkRowsHold : Type 0
WalkRowsHold = T (all_hold walk_rows)
