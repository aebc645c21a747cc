-- `bids::count` meets its contract. The loop's invariant: what is counted and what is left are the whole. Assumes nothing.
use mathlib.Core.Path.{◌≡◌, sym, ap, ◌∙◌}
use mathlib.Core.Bool.{Bool, cond}
use Prim.Native.Nat.{ℕ, ◌<◌}
use native.Mathlib.Omega.{arith}
use lib.ListN.{length, get_or}
use Rattle.std.proofs.lemmas.List.{length_push}
use Rattle.std.proofs.lemmas.Slice.Zip.{zip_turn, zip_end}
use Rattle.rules.specs.Allotment.{no_bid, filled}
use Rattle.bids.specs.Columns.{no_rate, no_amount, bids_from}
use Rattle.bids.proofs.Columns.{ten-bids, bid_passed}
use Rattle.bids.proofs.Loops.{flag_is, flag_at_most, one_at_most, count_more, count_end}
use Rattle.bids.proofs.count.Goals as goal

pub overflow_add-n : goal.overflow_add-n
overflow_add-n c =
    let a = c.args in
    let l = c.loop-rate in
    let t = zip_turn a.rates a.amounts l.yielded _ _ c.next.new.self _ (cc) (cc) l.yielded_by _ c.in-Some.is c.next.ensures.steps in
    let below : length l.yielded < 10 = omega (arith, t.0) in
    omega (arith, flag_at_most _ _ c.from-n.ensures)

pub loop-rate-preserved : goal.loop-rate-preserved
loop-rate-preserved c =
    let a = c.args in
    let l = c.loop-rate in
    let bs = bids_from a.rates a.amounts 0 10 in
    let t = zip_turn a.rates a.amounts l.yielded _ _ c.next.new.self _ (cc) (cc) l.yielded_by _ c.in-Some.is c.next.ensures.steps in
    let k = length l.yielded in
    let below : k < 10 = omega (arith, t.0) in
    let e : c.from-n.result ≡ cond (filled (get_or bs k no_bid)) 1 0 =
    c.from-n.ensures ∙ flag_is c.is_filled.result ∙ ap {B = ℕ} (λ (b : Bool). cond b 1 0) (c.is_filled.ensures ∙ ap filled (sym (bid_passed a.rates a.amounts k _ _ below (t.2 no_rate) (t.3 no_amount)))) in
    let small = one_at_most (filled (get_or bs k no_bid)) in
    let more = count_more bs k (omega (arith, ten-bids a.rates a.amounts)) in
    rw length_push (omega arith, omega arith)

pub returns : goal.returns
returns c =
    let a = c.args in
    let l = c.loop-rate in
    let bs = bids_from a.rates a.amounts 0 10 in
    let t = zip_end a.rates a.amounts l.yielded _ _ c.next.new.self _ (cc) (cc) l.yielded_by c.in-None.is c.next.ensures.steps in
    omega (arith, count_end bs (length l.yielded) (omega (arith, t, ten-bids a.rates a.amounts)))
