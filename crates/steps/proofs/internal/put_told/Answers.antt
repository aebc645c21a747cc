-- `steps::internal::put_told` meets its contract. Assumes nothing.
use borrow.Author.Rules.{rules}
use mathlib.Core.Path.{◌≡◌}
use Prim.Native.Nat.{◌<◌}
use native.Mathlib.Omega.{arith}
use lib.ListN.{length}
use Rattle.output.proofs.Output.{said}
use Rattle.errors.specs.Listed.{listed}
use Rattle.reception.proofs.Listing.{listed_none, listed_some}
use Rattle.steps.proofs.Answered.{line_confirmed, line_returned}
use Rattle.steps.proofs.internal.put_told.Goals as goal

pub put_confirmed-requires : goal.put_confirmed-requires
put_confirmed-requires c =
    let p = c.requires.n_bound in
    record { m_value = c.requires.m_value; in_bounds = (p.1, omega (arith, p.2)) }

pub returns-then-e-eq0 : goal.returns-then-e-eq0
returns-then-e-eq0 c =
    λ k.
    let a = c.args in
    let empty = listed_none a.e.codes a.e.n (omega (arith, c.if-e-eq0.true)) in
    said (line_confirmed (listed a.e) k a.s.now a.m.now empty c.requires.m_value_2) c.put_confirmed.ensures

pub put_returned-requires : goal.put_returned-requires
put_returned-requires c =
    let p = c.requires.n_bound in
    let some : 0 < c.args.e.n = omega (arith, c.if-e-eq0.false) in
    record { m_value = c.requires.m_value; n_nonzero = (some, p.0, p.1, p.2) }

pub returns : goal.returns
returns c =
    let sixteen : length c.args.e.codes ≡ 16 = search rules in
    λ k.
    let a = c.args in
    let some = listed_some a.e.codes a.e.n (omega (arith, c.if-e-eq0.false)) (omega (arith, sixteen)) in
    said (line_returned (listed a.e) k a.s.now a.m.now some c.requires.m_value_2) c.put_returned.ensures
