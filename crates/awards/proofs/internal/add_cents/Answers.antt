-- `awards::internal::add_cents` meets its contract. The loop's invariant: the first awards have their cents, and the bids at the last rate passed
-- have taken theirs from the cents left. Assumes nothing.
use mathlib.Core.Path.{refl}
use native.Mathlib.Omega.{arith}
use Rattle.rules.specs.Allotment.{keep}
use Rattle.bids.specs.Columns.{bids_in}
use Rattle.offer.specs.Viewed.{viewed}
use Rattle.awards.proofs.Loops.{long_old, served-within, cents_more, cents-all}
use Rattle.awards.proofs.internal.add_cents.Goals as goal

pub loop-i-init : goal.loop-i-init
unfolding keep
loop-i-init c = ((refl, refl), omega arith)

pub bid-requires : goal.bid-requires
bid-requires c =
    let a = c.args in
    let p = c.requires in
    omega (arith, long_old (bids_in a.bids) (viewed a.o) a.last.0 p.last_rate a.cents p.cents_value a.awards.now p.awards_value, c.loop-i.invariant.0.0)

pub overflow_add-award : goal.overflow_add-award
overflow_add-award c =
    let a = c.args in
    let p = c.requires in
    let l = c.loop-i in
    let many = long_old (bids_in a.bids) (viewed a.o) a.last.0 p.last_rate a.cents p.cents_value a.awards.now p.awards_value in
    omega (
      arith,
      served-within (bids_in a.bids) (viewed a.o) a.last.0 p.last_rate a.cents p.cents_value a.awards.now p.awards_value l.awards l.left l.i l.invariant
          (omega (arith, many, l.invariant.0.0)),
      p.bids_bound,
      c.cent-c.ensures.2,
    )

pub loop-i-preserved : goal.loop-i-preserved
loop-i-preserved c =
    let a = c.args in
    let p = c.requires in
    let l = c.loop-i in
    let cent = c.cent-c in
    let many = long_old (bids_in a.bids) (viewed a.o) a.last.0 p.last_rate a.cents p.cents_value a.awards.now p.awards_value in
    cents_more (bids_in a.bids) (viewed a.o) a.last.0 p.last_rate a.cents p.cents_value a.awards.now p.awards_value l.awards l.left l.i l.invariant
    (omega (arith, many, l.invariant.0.0))
    _
    c.bid.ensures
    cent.result
    cent.ensures.0

pub returns : goal.returns
returns c =
    let a = c.args in
    let p = c.requires in
    let l = c.loop-i in
    let many = long_old (bids_in a.bids) (viewed a.o) a.last.0 p.last_rate a.cents p.cents_value a.awards.now p.awards_value in
    cents-all (bids_in a.bids) (viewed a.o) a.last.0 p.last_rate a.cents p.cents_value a.awards.now p.awards_value l.awards l.left l.i l.invariant
    (omega (arith, many, l.invariant.0.0))
