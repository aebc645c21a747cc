-- `book::numbers_of` meets its contract. The loop's invariant: the first i numbers are written. Assumes nothing.
use borrow.Author.Rules.{rules}
use mathlib.Core.Path.{◌≡◌, refl}
use Prim.Native.Nat.{ℕ, ◌-◌}
use native.Mathlib.Omega.{arith}
use lib.ListN.{length, length-replicate}
use Rattle.laws.proofs.Arrays.{length_mapped}
use Rattle.bids.specs.Columns.{no_rate}
use Rattle.book.specs.Viewed.{hundred_thousandths}
use Rattle.book.proofs.Mapped.{mapped_more, mapped_all}
use Rattle.book.proofs.numbers_of.Goals as goal

pub loop-i-init : goal.loop-i-init
loop-i-init c = (omega arith, refl)

pub loop-i-preserved : goal.loop-i-preserved
loop-i-preserved c =
    let full : length c.args.from ≡ 640 = search (rules, length_mapped) in
    let n = full in
    mapped_more hundred_thousandths c.args.from _ _ _ no_rate 0 (omega (arith, n, length-replicate {A = ℕ} 640 0)) (omega (arith, n)) c.loop-i.invariant

pub returns : goal.returns
returns c =
    let full : length c.args.from ≡ 640 = search (rules, length_mapped) in
    let n = full in
    mapped_all hundred_thousandths c.args.from _ _ _ no_rate 0 (omega (arith, n, length-replicate {A = ℕ} 640 0)) (omega (arith, n)) c.loop-i.invariant
