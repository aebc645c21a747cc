-- `bids::any_place` meets its contract. The loop's invariant: what is asked and what is left are the whole. Assumes nothing.
use mathlib.Core.Path.{refl, sym, ap, ◌∙◌}
use mathlib.Core.Bool.{Bool, ◌||◌}
use Prim.Native.Nat.{◌+◌, ◌<◌}
use native.Mathlib.Omega.{arith}
use lib.ListN.{length, drop}
use Rattle.std.proofs.lemmas.List.{length_push}
use Rattle.std.proofs.lemmas.Slice.Zip.{zip_turn, zip_end}
use Rattle.rules.specs.Allotment.{no_bid}
use Rattle.rules.specs.Opening.{any}
use Rattle.rules.proofs.Any.{any_more, any_end}
use Rattle.bids.specs.Columns.{no_rate, no_amount, bids_from}
use Rattle.bids.proofs.Columns.{ten-bids, bid_passed}
use Rattle.bids.proofs.any_place.Goals as goal

pub loop-rate-init : goal.loop-rate-init
loop-rate-init g c = λ p asked. refl

pub loop-rate-preserved : goal.loop-rate-preserved
loop-rate-preserved g c = λ p asked.
    let a = c.args in
    let l = c.loop-rate in
    let bs = bids_from a.rates a.amounts 0 10 in
    let t = zip_turn a.rates a.amounts l.yielded _ _ c.next.new.self _ (cc) (cc) l.yielded_by _ c.in-Some.is c.next.ensures.steps in
    let k = length l.yielded in
    let below : k < 10 = omega (arith, t.0) in
    let e = asked _ _ c.has_fault-found.ensures ∙ ap p (sym (bid_passed a.rates a.amounts k _ _ below (t.2 no_rate) (t.3 no_amount))) in
    let more = ap (λ (b : Bool). (l.found || b) || any p (drop (k + 1) bs)) e ∙ any_more p l.found bs k no_bid (omega (arith, ten-bids a.rates a.amounts)) ∙ l.invariant p asked in
    rw length_push more

pub returns : goal.returns
returns g c = λ p asked.
    let a = c.args in
    let l = c.loop-rate in
    let t = zip_end a.rates a.amounts l.yielded _ _ c.next.new.self _ (cc) (cc) l.yielded_by c.in-None.is c.next.ensures.steps in
    sym (any_end p l.found (bids_from a.rates a.amounts 0 10) (length l.yielded) (omega (arith, t, ten-bids a.rates a.amounts))) ∙ l.invariant p asked
