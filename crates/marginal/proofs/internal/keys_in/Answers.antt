-- `marginal::internal::keys_in` meets its contract. The loop's invariant: the first n keys are those of the bids in among the bids passed. Assumes nothing.
use mathlib.Core.Path.{sym, ap, ◌∙◌}
use mathlib.Core.Bool.{Bool, cond}
use Prim.Native.Nat.{ℕ, ◌/◌}
use native.Mathlib.Omega.{arith}
use lib.ListN.{take, length-set}
use Rattle.rules.specs.Allotment.{Bid, is_in}
use Rattle.bids.specs.Columns.{bids_in}
use Rattle.bids.proofs.Loops.{flag_is, flag_at_most}
use Rattle.offer.specs.Viewed.{viewed, ranks}
use Rattle.marginal.proofs.Storing.{no_keys, ranked_more, ranked-all}
use Rattle.marginal.proofs.internal.keys_in.Goals as goal

pub loop-i-init : goal.loop-i-init
loop-i-init c = (omega arith, omega arith, no_keys _ _)

pub overflow_add-n : goal.overflow_add-n
overflow_add-n c = omega (arith, flag_at_most _ _ c.from-n.ensures)

pub loop-i-preserved : goal.loop-i-preserved
loop-i-preserved c =
    let a = c.args in
    let l = c.loop-i in
    let o = viewed a.o in
    let key = c.key in
    let e = c.bid-b.ensures in (
      omega (arith, flag_at_most _ _ c.from-n.ensures),
      simp length-set l.invariant.1,
      ranked_more o (bids_in a.bids) l.i l.n key.result l.keys l.invariant.2
          (omega arith)
          (omega arith)
          key.ensures.0
          (ap (λ (b : Bid). ranks o.side b.rate (key.result / 1024)) (sym e) ∙ key.ensures.1)
          c.from-n.result
          (c.from-n.ensures ∙ flag_is c.is_in.result ∙ ap {B = ℕ} (λ (t : Bool). cond t 1 0) c.is_in.ensures ∙ ap {B = ℕ} (λ (b : Bid). cond (is_in o b) 1 0) e),
    )

pub returns : goal.returns
returns c =
    let a = c.args in
    let l = c.loop-i in
    record { few = omega arith; ranked = ranked-all (viewed a.o) (bids_in a.bids) l.i (take l.n l.keys) (omega arith) l.invariant.2 }
