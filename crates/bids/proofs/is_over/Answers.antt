-- `bids::is_over` meets its contract. The loop's invariant: what is found and what the rest will find are the whole, whatever
-- the rates are. Assumes nothing.
use mathlib.Core.Path.{refl, sym, ap, ◌∙◌}
use mathlib.Core.Bool.{Bool, ◌||◌, ◌&&◌, not}
use Prim.Native.Nat.{ℕ, ◌+◌, ◌-◌}
use native.Mathlib.Omega.{arith}
use lib.Dec.{ltb, eqb}
use lib.ListN.{drop, get_or}
use Rattle.rules.specs.Allotment.{Bid, total}
use Rattle.rules.specs.Receiving.{over_maximum}
use Rattle.bids.specs.Columns.{no_amount, bids_from}
use Rattle.bids.proofs.Columns.{ten-bids, bid_is}
use Rattle.bids.proofs.Loops.{above_more, above_end}
use Rattle.bids.proofs.is_over.Goals as goal

pub loop-amount-init : goal.loop-amount-init
loop-amount-init c = λ rates. refl

pub loop-amount-preserved : goal.loop-amount-preserved
loop-amount-preserved c =
    let start = c in
    let l = c.loop-amount in
    λ rates.
    let bs = bids_from rates start.args.amounts 0 10 in
    let rest = total (drop (l.amount-index + 1) bs) in
    let amount = (get_or start.args.amounts l.amount-index no_amount).0 in
    let e = ap (λ (b : Bid). b.amount) (sym (bid_is rates start.args.amounts 10 l.amount-index (omega arith))) in
    ap (λ (n : ℕ). (l.over || ltb l.left amount) || ltb n rest) c.saturating_sub-left.ensures
    ∙ ap (λ (a : ℕ). (l.over || ltb l.left a) || ltb (l.left - a) rest) e
    ∙ above_more l.over l.left bs l.amount-index (omega (arith, ten-bids rates start.args.amounts))
    ∙ l.invariant rates

pub returns : goal.returns
unfolding over_maximum
returns c =
    let start = c in
    let a = start.args in
    let l = c.loop-amount in
    ap (λ (b : Bool). not (eqb a.maximum.0 0) && b) (sym (above_end l.over l.left (bids_from a.rates a.amounts 0 10) l.amount-index (omega (arith, ten-bids a.rates a.amounts))) ∙ l.invariant a.rates)
