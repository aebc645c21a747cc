-- `bids::has_gap` meets its contract. The loop's invariant: what is tested and what is left are the whole. Assumes nothing.
use mathlib.Core.Path.{refl, sym, ap, ◌∙◌}
use mathlib.Core.Bool.{Bool, ◌||◌, ◌&&◌, not}
use Prim.Native.Nat.{◌+◌, ◌<◌}
use native.Mathlib.Omega.{arith}
use lib.ListN.{length, drop}
use Rattle.std.proofs.lemmas.List.{length_push}
use Rattle.std.proofs.lemmas.Slice.Zip.{zip_turn, zip_end}
use Rattle.rules.specs.Allotment.{filled}
use Rattle.bids.specs.Columns.{no_rate, no_amount, bids_from}
use Rattle.bids.proofs.Columns.{ten-bids, bid_passed}
use Rattle.bids.proofs.Loops.{gap_after, gap_more, gap_end}
use Rattle.bids.proofs.has_gap.Goals as goal

pub loop-rate-init : goal.loop-rate-init
loop-rate-init c = refl

pub loop-rate-preserved : goal.loop-rate-preserved
loop-rate-preserved c =
    let a = c.args in
    let l = c.loop-rate in
    let bs = bids_from a.rates a.amounts 0 10 in
    let t = zip_turn a.rates a.amounts l.yielded _ _ c.next.new.self _ (cc) (cc) l.yielded_by _ c.in-Some.is c.next.ensures.steps in
    let k = length l.yielded in
    let below : k < 10 = omega (arith, t.0) in
    let e = c.is_filled-bid.ensures ∙ ap filled (sym (bid_passed a.rates a.amounts k _ _ below (t.2 no_rate) (t.3 no_amount))) in
    let more = ap (λ (b : Bool). (l.found || (l.ended && b)) || gap_after (l.ended || not b) (drop (k + 1) bs)) e ∙ gap_more l.found l.ended bs k (omega (arith, ten-bids a.rates a.amounts)) ∙ l.invariant in
    rw length_push more

pub returns : goal.returns
returns c =
    let a = c.args in
    let l = c.loop-rate in
    let t = zip_end a.rates a.amounts l.yielded _ _ c.next.new.self _ (cc) (cc) l.yielded_by c.in-None.is c.next.ensures.steps in
    sym (gap_end l.found l.ended (bids_from a.rates a.amounts 0 10) (length l.yielded) (omega (arith, t, ten-bids a.rates a.amounts))) ∙ l.invariant
