-- `marginal::internal::first_reaching` meets its contract. The loop's invariant: the sum is the running total over the keys passed, and falls short of Q
-- after each of them. Assumes nothing.
use mathlib.Core.Path.{◌≡◌, sym, ap, ◌∙◌}
use mathlib.Core.List.{List}
use mathlib.Core.Option.{some}
use Prim.Native.Nat.{ℕ, ◌+◌, ◌%◌, ◌<◌}
use native.Mathlib.Omega.{arith}
use lib.ListN.{length, get_or}
use Rattle.rules.specs.Allotment.{Bid, no_bid}
use Rattle.bids.specs.Columns.{bids_in}
use Rattle.offer.specs.Viewed.{viewed}
use Rattle.marginal.proofs.Running.{running, running_start, running_next, running_le, index_below, reached, not_reached}
use Rattle.marginal.proofs.internal.first_reaching.Goals as goal

-- the amount of the next key's bid added
added : (bs : List Bid) (keys : List ℕ) (j sum : ℕ) (b : Bid) → j < length keys → sum ≡ running bs keys j → b ≡ get_or bs (get_or keys j 0 % 1024) no_bid
    → sum + b.amount ≡ running bs keys (j + 1)
added bs keys j sum b h e is = omega (arith, e, running_next bs keys j h, ap {B = ℕ} (λ (x : Bid). x.amount) is)

pub loop-j-init : goal.loop-j-init
loop-j-init c = (omega arith, running_start _ _, λ h. absurd (omega arith))

pub bid-b-requires : goal.bid-b-requires
bid-b-requires c =
    let a = c.args in
    index_below (viewed a.o) (bids_in a.bids) a.keys.now c.requires.ranked c.requires.rising c.loop-j.j (omega arith)

pub overflow_add-sum : goal.overflow_add-sum
overflow_add-sum c =
    let a = c.args in
    let l = c.loop-j in
    let bs = bids_in a.bids in
    omega (
      arith,
      c.requires.bids_bound,
      added bs a.keys.now l.j l.sum _ (omega arith) l.invariant.1 c.bid-b.ensures,
      running_le (viewed a.o) bs a.keys.now c.requires.ranked c.requires.rising (l.j + 1),
    )

pub loop-j-preserved : goal.loop-j-preserved
loop-j-preserved c =
    let l = c.loop-j in
    (omega arith, added (bids_in c.args.bids) c.args.keys.now l.j l.sum _ (omega arith) l.invariant.1 c.bid-b.ensures, λ h. c.if-o-sum.false)

pub returns-then-o-sum : goal.returns-then-o-sum
returns-then-o-sum c =
    let a = c.args in
    let l = c.loop-j in
    let bs = bids_in a.bids in
    let next : l.j < length a.keys.now = omega arith in
    let short : 0 < l.j → running bs a.keys.now l.j < a.o.offered.0 = λ h. omega (arith, l.invariant.1, l.invariant.2 h) in
    ap (λ (b : Bid). some b.rate) c.bid-b.ensures
    ∙ sym
    (reached (viewed a.o) bs a.keys.now c.requires.ranked c.requires.rising l.j next short
    (omega (arith, c.if-o-sum.true, added bs a.keys.now l.j l.sum _ next l.invariant.1 c.bid-b.ensures, running_next bs a.keys.now l.j next)))

pub returns-then-j-keys : goal.returns-then-j-keys
returns-then-j-keys c =
    let a = c.args in
    let l = c.loop-j in
    let bs = bids_in a.bids in
    let all : l.j ≡ length a.keys.now = omega arith in
    sym
    (not_reached (viewed a.o) bs a.keys.now c.requires.ranked c.requires.rising
    (λ h. omega (arith, ap (running bs a.keys.now) all, l.invariant.1, l.invariant.2 (omega arith))))
