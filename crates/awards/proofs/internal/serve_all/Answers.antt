-- `awards::internal::serve_all` meets its contract. The loop's invariant: the first bids are served, and what those of them at the last rate are served is
-- added up. Assumes nothing.
use mathlib.Core.Path.{refl, ap, ◌∙◌}
use mathlib.Core.Bool.{Bool, cond}
use Prim.Native.Nat.{◌+◌}
use native.Mathlib.Omega.{arith}
use Rattle.bids.specs.Columns.{bids_in}
use Rattle.offer.specs.Viewed.{viewed}
use Rattle.awards.proofs.Loops.{serving_more, serving_le, serving_all}
use Rattle.awards.proofs.internal.serve_all.Goals as goal

pub loop-i-init : goal.loop-i-init
loop-i-init c = ((refl, refl), omega arith)

pub overflow_add-shared : goal.overflow_add-shared
overflow_add-shared c =
    let a = c.args in
    let l = c.loop-i in
    let bs = bids_in a.bids in
    let given = c.serve-given in
    omega (
      arith,
      serving_le bs (viewed a.o) a.last.0 a.t.better.0 a.t.equal.0 a.awards.now c.requires.awards_len _ _ (l.i + 1)
          (serving_more bs (viewed a.o) a.last.0 a.t.better.0 a.t.equal.0 a.awards.now c.requires.awards_len l.awards l.shared l.i l.invariant _ given.result.0 c.where_holds-shared.result
          (omega (arith, c.requires.awards_len, l.invariant.0.0))
          c.bid-bid.ensures
          given.ensures
          (c.where_holds-shared.ensures ∙ ap (λ (t : Bool). cond t given.result.0 0) c.stands_equal.ensures)),
      c.requires.bids_bound,
    )

pub loop-i-preserved : goal.loop-i-preserved
loop-i-preserved c =
    let a = c.args in
    let l = c.loop-i in
    let given = c.serve-given in
    serving_more (bids_in a.bids) (viewed a.o) a.last.0 a.t.better.0 a.t.equal.0 a.awards.now c.requires.awards_len l.awards l.shared l.i l.invariant _ given.result.0 c.where_holds-shared.result
    (omega (arith, c.requires.awards_len, l.invariant.0.0))
    c.bid-bid.ensures
    given.ensures
    (c.where_holds-shared.ensures ∙ ap (λ (t : Bool). cond t given.result.0 0) c.stands_equal.ensures)

pub returns : goal.returns
returns c =
    let a = c.args in
    let l = c.loop-i in
    serving_all (bids_in a.bids) (viewed a.o) a.last.0 a.t.better.0 a.t.equal.0 a.awards.now c.requires.awards_len l.awards l.shared l.i l.invariant (omega (arith, c.requires.awards_len, l.invariant.0.0))
