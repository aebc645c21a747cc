-- `optes::writing::address` meets its contract. Assumes nothing.
use mathlib.Core.Path.{◌≡◌}
use mathlib.Core.Bool.{true, ◌&&◌}
use mathlib.Core.List.{List}
use Prim.Native.Nat.{ℕ}
use native.Mathlib.Omega.{arith}
use lib.Dec.{eqb}
use lib.ListN.{length}
use borrow.Author.Tests.{eqb-true, eq-eqb, ne_eqb}
use Rattle.laws.proofs.Tests.{and_right}
use Rattle.optes.specs.Interface.{address_from}
use Rattle.optes.proofs.writing.address.Goals as goal

two_bytes : (n : ℕ) (text : List ℕ) → eqb n 14 && eqb (length text) 2 ≡ true → length text ≡ 2
two_bytes n text h = eqb-true (length text) 2 (and_right (eqb n 14) (eqb (length text) 2) h)

pub returns-then-length-eq5 : goal.returns-then-length-eq5
unfolding address_from
returns-then-length-eq5 c = rw (eq-eqb c.args.length 5 c.if-length-eq5.true)

pub bounds-text-0 : goal.bounds-text-0
bounds-text-0 c =
    let a = c.args in
    let e = two_bytes a.length a.text.now c.if-length-text.true in
    omega arith

pub bounds-text-1 : goal.bounds-text-1
bounds-text-1 c =
    let a = c.args in
    let e = two_bytes a.length a.text.now c.if-length-text.true in
    omega arith

pub returns-then-length-text : goal.returns-then-length-text
unfolding address_from
returns-then-length-text c =
    let a = c.args in
    rw (ne_eqb a.length 5 c.if-length-eq5.false, c.if-length-text.true)

pub returns : goal.returns
unfolding address_from
returns c =
    let a = c.args in
    rw (ne_eqb a.length 5 c.if-length-eq5.false, c.if-length-text.false)
