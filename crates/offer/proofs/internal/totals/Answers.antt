-- `offer::internal::totals` meets its contract. The loop's invariant: both totals are added up over the bids passed. Assumes nothing.
use Prim.Native.Nat.{◌+◌, ◌≤◌}
use native.Mathlib.Omega.{arith}
use lib.ListN.{length}
use Rattle.rules.specs.Allotment.{is_better, is_equal, total_better, total_equal}
use Rattle.bids.specs.Columns.{bids_in}
use Rattle.offer.specs.Viewed.{viewed}
use Rattle.offer.proofs.Sums.{added_le, added_more, added_all, totals_le}
use Rattle.offer.proofs.internal.totals.Goals as goal

pub loop-i-init : goal.loop-i-init
loop-i-init c = (omega arith, omega arith)

pub overflow_add-better : goal.overflow_add-better
overflow_add-better c =
    let a = c.args in
    let l = c.loop-i in
    let p = is_better (viewed a.o) a.rate.0 in
    let bs = bids_in a.bids in
    omega (
      arith,
      c.requires,
      added_le p bs (l.i + 1) (l.better + c.where_holds-better.result)
          (added_more p bs l.i l.better _ _ _ (omega arith) c.bid-b.ensures c.stands_better.ensures c.where_holds-better.ensures l.invariant.0),
    )

pub overflow_add-equal : goal.overflow_add-equal
overflow_add-equal c =
    let a = c.args in
    let l = c.loop-i in
    let p = is_equal (viewed a.o) a.rate.0 in
    let bs = bids_in a.bids in
    omega (
      arith,
      c.requires,
      added_le p bs (l.i + 1) (l.equal + c.where_holds-equal.result)
          (added_more p bs l.i l.equal _ _ _ (omega arith) c.bid-b.ensures c.stands_equal.ensures c.where_holds-equal.ensures l.invariant.1),
    )

pub loop-i-preserved : goal.loop-i-preserved
loop-i-preserved c =
    let a = c.args in
    let l = c.loop-i in
    let bs = bids_in a.bids in (
      added_more (is_better (viewed a.o) a.rate.0) bs l.i l.better _ _ _ (omega arith) c.bid-b.ensures c.stands_better.ensures c.where_holds-better.ensures l.invariant.0,
      added_more (is_equal (viewed a.o) a.rate.0) bs l.i l.equal _ _ _ (omega arith) c.bid-b.ensures c.stands_equal.ensures c.where_holds-equal.ensures l.invariant.1,
    )

pub invariant_of-result : goal.invariant_of-result
unfolding total_better total_equal
invariant_of-result c =
    let a = c.args in
    let bs = bids_in a.bids in
    let l = c.loop-i in
    let all : length bs ≤ l.i = omega arith in
    omega (
      arith,
      added_all (is_better (viewed a.o) a.rate.0) bs l.i l.better all l.invariant.0,
      added_all (is_equal (viewed a.o) a.rate.0) bs l.i l.equal all l.invariant.1,
      totals_le (viewed a.o) bs a.rate.0,
      c.requires,
    )

pub returns : goal.returns
unfolding total_better total_equal
returns c =
    let a = c.args in
    let bs = bids_in a.bids in
    let l = c.loop-i in
    let all : length bs ≤ l.i = omega arith in
    record {
      better_is = added_all (is_better (viewed a.o) a.rate.0) bs l.i l.better all l.invariant.0;
      equal_is = added_all (is_equal (viewed a.o) a.rate.0) bs l.i l.equal all l.invariant.1;
    }
