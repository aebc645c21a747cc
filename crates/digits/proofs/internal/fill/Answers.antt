-- `digits::internal::fill` meets its contract. The loop's invariant: the digits still to write, then what is written, are the whole. Assumes nothing.
use mathlib.Core.Path.{◌≡◌, ◌∙◌}
use mathlib.Core.List.{append-nil}
use native.Mathlib.Omega.{arith}
use lib.Seq.{drop-length}
use Rattle.digits.specs.Decimal.{digits}
use Rattle.digits.proofs.Writing.{store_digit}
use Rattle.digits.proofs.internal.fill.Goals as goal

pub loop-i-init : goal.loop-i-init
loop-i-init c = rw drop-length (append-nil _)

pub loop-i-preserved : goal.loop-i-preserved
loop-i-preserved c =
    let l = c.loop-i in
    store_digit l.i l.rest l.part (omega arith) (omega arith) ∙ l.invariant

pub returns : goal.returns
unfolding digits
returns c =
    let l = c.loop-i in
    let z : l.i ≡ 0 = omega arith in
    rw z at l.invariant
