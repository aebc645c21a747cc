-- `awards::internal::shared_out` meets its contract. Assumes nothing.
use mathlib.Core.Path.{sym, ap, ◌∙◌}
use Prim.Native.Nat.{◌-◌}
use borrow.Author.Tests.{le-leb, lt-leb}
use Rattle.rules.specs.Allotment.{Division}
use Rattle.rules.proofs.Division.{quotient_is}
use Rattle.awards.specs.LastRate.{shared_out}
use Rattle.awards.proofs.internal.shared_out.Goals as goal

pub returns-then-t-q : goal.returns-then-t-q
unfolding shared_out
returns-then-t-q c = simp (le-leb _ _ c.if-t-q.true)

pub returns-then-q-t : goal.returns-then-q-t
unfolding shared_out
returns-then-q-t c = simp (lt-leb _ _ c.if-t-q.false, le-leb _ _ c.if-q-t.true)

pub returns : goal.returns
unfolding shared_out
returns c =
    let d = c in
    let a = d.args in
    ap (λ (x : Division). x.quotient) d.divide.ensures
    ∙ quotient_is a.amount.0 (a.q.0 - a.t.better.0) a.t.equal.0
    ∙ sym (simp (lt-leb _ _ d.if-t-q.false, lt-leb _ _ d.if-q-t.false))
