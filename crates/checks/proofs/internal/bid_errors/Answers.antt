-- `checks::internal::bid_errors` meets its contract. Assumes nothing.
use mathlib.Core.Path.{◌≡◌, ap}
use mathlib.Core.List.{◌++◌}
use Prim.Native.Nat.{ℕ}
use native.Mathlib.Omega.{arith}
use lib.Dec.{ltb}
use lib.ListN.{length}
use Rattle.texts.specs.Texts.{ascii}
use Rattle.rules.specs.Allotment.{filled, keep}
use Rattle.rules.specs.Opening.{any}
use Rattle.layout.specs.Fields.{one_of}
use Rattle.rules.specs.Receiving.{when, bid_errors, gap, fine_rate, small_bid, uneven_bid, over_maximum}
use Rattle.bids.specs.Columns.{bids_from}
use Rattle.errors.specs.Listed.{listed, named, idc_table, idc_in}
use Rattle.checks.proofs.Groups.{added, tested}
use Rattle.checks.proofs.internal.bid_errors.Goals as goal

pub returns : goal.returns
unfolding bid_errors named idc_table idc_in one_of
returns c =
    let with5 = c.with-uneven in
    let with4 = c.with-small in
    let with3 = c.with-fine in
    let with2 = c.with-many in
    let with1 = c.with-gap in
    let e = listed c.args.e in
    let l1 = listed with1.result in
    let l2 = listed with2.result in
    let l3 = listed with3.result in
    let l4 = listed with4.result in
    let l5 = listed with5.result in
    let l6 = listed c.with.result in
    let bs = bids_from c.args.rates c.args.amounts 0 10 in
    let t = c.args.t in
    let h1 : l1 ≡ e ++ when (gap bs) (ascii "6G6", 902) = tested e l1 _ _ _ c.has_gap.ensures with1.ensures.0 in
    let h2 : l2 ≡ l1 ++ when (ltb t.most (length (keep filled bs))) (ascii "6G6", 903) = tested l1 l2 _ _ _ (ap (λ (n : ℕ). ltb c.args.t.most n) c.count.ensures) with2.ensures.0 in
    let h3 : l3 ≡ l2 ++ when (any fine_rate bs) (ascii "6G6", 904) = tested l2 l3 _ _ _ c.any_fine.ensures with3.ensures.0 in
    let h4 : l4 ≡ l3 ++ when (any (small_bid t.minimum.0) bs) (ascii "6G6", 905) = tested l3 l4 _ _ _ c.any_small.ensures with4.ensures.0 in
    let h5 : l5 ≡ l4 ++ when (any (uneven_bid t.minimum.0 t.increment.0) bs) (ascii "6G6", 906) = tested l4 l5 _ _ _ c.any_uneven.ensures with5.ensures.0 in
    let h6 : l6 ≡ l5 ++ when (over_maximum t.maximum.0 bs) (ascii "6G6", 907) = tested l5 l6 _ _ _ c.is_over.ensures c.with.ensures.0 in
    let n1 = with1.ensures.1 in
    let n2 = with2.ensures.1 in
    let n3 = with3.ensures.1 in
    let n4 = with4.ensures.1 in
    let n5 = with5.ensures.1 in
    let n6 = c.with.ensures.1 in
    (added e l5 l6 _ _ (added e l4 l5 _ _ (added e l3 l4 _ _ (added e l2 l3 _ _ (added e l1 l2 _ _ h1 h2) h3) h4) h5) h6, omega arith)
