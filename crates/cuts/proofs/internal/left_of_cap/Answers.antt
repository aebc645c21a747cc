-- `cuts::internal::left_of_cap` meets its contract. The loop's invariant: what is added up and what is left are the whole. Assumes nothing.
use mathlib.Core.Path.{◌≡◌, ap, ◌∙◌}
use Prim.Native.Nat.{ℕ, ◌-◌}
use native.Mathlib.Omega.{arith}
use Rattle.rules.specs.Allotment.{Bid}
use Rattle.bids.specs.Columns.{bids_in}
use Rattle.cuts.specs.Walked.{walked}
use Rattle.cuts.proofs.Walked.{walked_more, walked_end, walked_le}
use Rattle.cuts.proofs.internal.left_of_cap.Goals as goal

pub overflow_add-before : goal.overflow_add-before
overflow_add-before c =
    let a = c.args in
    let l = c.loop-j in
    let bs = bids_in a.bids in
    let r = c.bid-rate.result.rate.0 in
    omega (
      arith,
      walked_more r a.i bs l.j l.before c.where_holds-before.result _ _ (omega arith) c.bid-b.ensures l.invariant c.where_holds-before.ensures,
      walked_le r a.i 0 bs,
      c.requires.amounts_bound,
    )

pub loop-j-preserved : goal.loop-j-preserved
loop-j-preserved c =
    let a = c.args in
    let l = c.loop-j in
    walked_more c.bid-rate.result.rate.0 a.i (bids_in a.bids) l.j l.before c.where_holds-before.result _ _ (omega arith) c.bid-b.ensures l.invariant c.where_holds-before.ensures

pub returns : goal.returns
returns c =
    let a = c.args in
    let l = c.loop-j in
    let bs = bids_in a.bids in
    let r = c.bid-rate.result.rate.0 in
    let all : l.before ≡ walked r a.i 0 bs = omega (arith, l.invariant, walked_end r a.i l.j bs (omega arith)) in
    c.saturating_sub.ensures ∙ ap (λ (n : ℕ). a.cap - n) all ∙ ap (λ (b : Bid). a.cap - walked b.rate a.i 0 bs) c.bid-rate.ensures
