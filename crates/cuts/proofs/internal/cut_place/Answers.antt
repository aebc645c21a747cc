-- `cuts::internal::cut_place` meets its contract. Assumes nothing.
use mathlib.Core.Path.{sym, ap, ap₂, ◌∙◌}
use mathlib.Core.Bool.{Bool, ◌&&◌}
use Prim.Native.Nat.{ℕ, ◌-◌}
use Rattle.rules.specs.Allotment.{Bid}
use Rattle.rules.specs.Cuts.{cut_above}
use Rattle.bids.specs.Columns.{bids_in}
use Rattle.bids.specs.Columns as columns
use Rattle.offer.specs.Viewed.{viewed}
use Rattle.cuts.specs.Walked.{walked}
use Rattle.cuts.proofs.Places.{cut_is, uncut_is}
use Rattle.cuts.proofs.internal.cut_place.Goals as goal

pub returns-then-is_capped-is_in : goal.returns-then-is_capped-is_in
returns-then-is_capped-is_in c =
    let a = c.args in
    let bs = bids_in a.bids in
    let b = columns.viewed c.bid-b.result in
    let tested = ap₂ (λ (s t : Bool). s && t) c.is_capped.ensures c.is_in.ensures in
    c.cut_above.ensures
    ∙ ap (λ (n : ℕ). cut_above n b) (c.left_of_cap.ensures ∙ ap (λ (x : Bid). a.cap - walked x.rate a.i 0 bs) (sym c.bid-b.ensures))
    ∙ cut_is (viewed a.o) a.cap bs a.i b c.bid-b.ensures (sym tested ∙ c.if-is_capped-is_in.true)

pub returns : goal.returns
returns c =
    let a = c.args in
    let tested = ap₂ (λ (s t : Bool). s && t) c.is_capped.ensures c.is_in.ensures in
    uncut_is (viewed a.o) a.cap (bids_in a.bids) a.i (columns.viewed c.bid-b.result) c.bid-b.ensures (sym tested ∙ c.if-is_capped-is_in.false)
