-- `addresses::internal::address_at` meets its contract. Assumes nothing.
use mathlib.Core.Path.{refl, ap, ◌∙◌}
use Prim.Native.Nat.{◌+◌}
use native.Mathlib.Omega.{arith}
use Rattle.addresses.specs.Addresses.{code_address}
use Rattle.addresses.proofs.Reading.{five_bytes, short_is, long_is}
use Rattle.addresses.proofs.internal.address_at.Goals as goal

pub returns-then-w-eq5 : goal.returns-then-w-eq5
returns-then-w-eq5 c =
    let a = c.args in
    c.code_from.ensures ∙ ap code_address (five_bytes c.args.m.now c.args.from (c.args.from + 5) c.number_at-code.result refl c.number_at-code.ensures) ∙ short_is a.m.now a.from a.w c.if-w-eq5.true (omega arith)

pub branch_from-requires : goal.branch_from-requires
branch_from-requires c = let w = c.requires.1 c.if-w-eq5.false in (omega arith, omega arith, five_bytes c.args.m.now c.args.from (c.args.from + 5) c.number_at-code.result refl c.number_at-code.ensures)

pub returns : goal.returns
returns c =
    let a = c.args in
    let w = c.requires.1 c.if-w-eq5.false in
    c.branch_from.ensures ∙ long_is a.m.now a.from a.w w (omega arith)
