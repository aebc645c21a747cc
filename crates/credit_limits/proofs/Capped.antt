-- Where a limit is a cap and where it is not: without one nothing is cut, so not by zeros and not in LA. Assumes nothing.
use mathlib.Core.Path.{◌≡◌, refl, ap, ap₂, ◌∙◌}
use mathlib.Core.Bool.{Bool, true, false, cond, not, ◌&&◌, and-false}
use mathlib.Core.List.{List, [], ◌∷◌, ◌++◌}
use Prim.Native.Nat.{ℕ, zero, suc}
use lib.Dec.{eqb}
use lib.ListN.{take, drop, replicate, take-append-drop}
use Rattle.laws.proofs.Tests.{or_left, or_right}
use Rattle.announcement.specs.declared.Side.{Side}
use Rattle.announcement.specs.declared.Side.TheVariants.{La}
use Rattle.rules.specs.Allotment.{Bid, Offer}
use Rattle.rules.specs.Cuts.{invests, is_capped, cut_from, cut_bids, cut_book}
use Rattle.rules.specs.Opening.{any}
use Rattle.credit_limits.specs.Theorems.{NoneCappedStay, UncappedStay, CollectionsStay, ZerosCutNothing}

-- one counterparty's bids
pub bids_cut : (o : Offer) (cap : ℕ) (bs : List Bid) → is_capped o cap ≡ true → cut_bids o cap bs ≡ cut_from o cap bs [] bs
unfolding cut_bids
bids_cut o cap bs h = ap (λ (t : Bool). cond t (cut_from o cap bs [] bs) bs) h

pub bids_stay : (o : Offer) (cap : ℕ) (bs : List Bid) → is_capped o cap ≡ false → cut_bids o cap bs ≡ bs
unfolding cut_bids
bids_stay o cap bs h = ap (λ (t : Bool). cond t (cut_from o cap bs [] bs) bs) h

pub none_capped_stay : NoneCappedStay
unfolding cut_book any
none_capped_stay o [] bs h = refl
none_capped_stay o (cap ∷ limits) bs h =
    ap₂ (λ (x y : List Bid). x ++ y)
    (bids_stay o cap (take 10 bs) (or_left (is_capped o cap) (any (is_capped o) limits) h))
    (none_capped_stay o limits (drop 10 bs) (or_right (is_capped o cap) (any (is_capped o) limits) h))
    ∙ take-append-drop 10 bs

-- a limit of zero is no cap
pub zero_not_capped : (o : Offer) → is_capped o 0 ≡ false
unfolding is_capped
zero_not_capped o = and-false (invests o.side)

pub uncapped_stay : UncappedStay
uncapped_stay o bs = bids_stay o 0 bs (zero_not_capped o)

zeros_not_capped : (o : Offer) (n : ℕ) → any (is_capped o) (replicate n 0) ≡ false
unfolding any
zeros_not_capped o zero = refl
zeros_not_capped o (suc n) = rw (zero_not_capped o) (zeros_not_capped o n)

pub zeros_cut_nothing : ZerosCutNothing
zeros_cut_nothing o n bs = none_capped_stay o (replicate n 0) bs (zeros_not_capped o n)

-- nor is any limit in LA
collection_not_capped : (o : Offer) (cap : ℕ) → o.side ≡ La → is_capped o cap ≡ false
unfolding is_capped invests
collection_not_capped o cap la = ap (λ (d : Side). invests d && not (eqb cap 0)) la

collections_not_capped : (o : Offer) (limits : List ℕ) → o.side ≡ La → any (is_capped o) limits ≡ false
unfolding any
collections_not_capped o [] la = refl
collections_not_capped o (cap ∷ limits) la = rw (collection_not_capped o cap la) (collections_not_capped o limits la)

pub collections_stay : CollectionsStay
collections_stay o limits bs la = none_capped_stay o limits bs (collections_not_capped o limits la)
