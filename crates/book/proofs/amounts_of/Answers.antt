-- `book::amounts_of` meets its contract. The loop's invariant: the first i amounts are written. Assumes nothing.
use borrow.Author.Rules.{rules}
use mathlib.Core.Path.{◌≡◌, refl}
use Prim.Native.Nat.{◌-◌}
use native.Mathlib.Omega.{arith}
use lib.ListN.{length, length-replicate}
use Rattle.places.specs.declared.Amount.{Amount}
use Rattle.bids.specs.Columns.{no_amount}
use Rattle.book.specs.Viewed.{amount_of}
use Rattle.book.proofs.Mapped.{mapped_more, mapped_all}
use Rattle.book.proofs.amounts_of.Goals as goal

pub loop-i-init : goal.loop-i-init
loop-i-init c = (omega arith, refl)

pub loop-i-preserved : goal.loop-i-preserved
loop-i-preserved c =
    let full : length c.args.cents ≡ 640 = search rules in
    let n = full in
    mapped_more amount_of c.args.cents _ _ _ 0 no_amount (omega (arith, n, length-replicate {A = Amount} 640 no_amount)) (omega (arith, n)) c.loop-i.invariant

pub returns : goal.returns
returns c =
    let full : length c.args.cents ≡ 640 = search rules in
    let n = full in
    mapped_all amount_of c.args.cents _ _ _ 0 no_amount (omega (arith, n, length-replicate {A = Amount} 640 no_amount)) (omega (arith, n)) c.loop-i.invariant
