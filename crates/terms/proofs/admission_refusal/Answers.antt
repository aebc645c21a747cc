-- `terms::admission_refusal` meets its contract: the conditions in their order. Assumes nothing.
use borrow.Author.Tests.{eq-eqb, ne_eqb}
use mathlib.Core.Path.{◌≡◌, sym, ap, ◌∙◌}
use mathlib.Core.Bool.{true, false, not}
use Rattle.envelope.specs.Refusals.{first_holding}
use Rattle.rules.specs.Opening.{admitting, limits_miscounted}
use Rattle.terms.specs.Viewed.{admission_refused}
use Rattle.terms.proofs.admission_refusal.Goals as goal

pub returns-then-codes_bad : goal.returns-then-codes_bad
unfolding admission_refused first_holding
returns-then-codes_bad c = rw (sym c.codes_bad.ensures ∙ c.if-codes_bad.true)

pub returns-then-limits-codes : goal.returns-then-limits-codes
unfolding admission_refused first_holding limits_miscounted
returns-then-limits-codes c =
    let miscounted : (let a = c.args in limits_miscounted (admitting a.codes.now a.limits.now) ≡ true) = ap not (ne_eqb _ _ c.if-limits-codes.true) in
    rw (sym c.codes_bad.ensures ∙ c.if-codes_bad.false, miscounted)

pub returns-then-limit_too_long : goal.returns-then-limit_too_long
unfolding admission_refused first_holding limits_miscounted
returns-then-limit_too_long c =
    let counted : (let a = c.args in limits_miscounted (admitting a.codes.now a.limits.now) ≡ false) = ap not (eq-eqb _ _ c.if-limits-codes.false) in
    rw (sym c.codes_bad.ensures ∙ c.if-codes_bad.false, counted, sym c.limit_too_long.ensures ∙ c.if-limit_too_long.true)

pub returns : goal.returns
unfolding admission_refused first_holding limits_miscounted
returns c =
    let counted : (let a = c.args in limits_miscounted (admitting a.codes.now a.limits.now) ≡ false) = ap not (eq-eqb _ _ c.if-limits-codes.false) in
    rw (sym c.codes_bad.ensures ∙ c.if-codes_bad.false, counted, sym c.limit_too_long.ensures ∙ c.if-limit_too_long.false)
