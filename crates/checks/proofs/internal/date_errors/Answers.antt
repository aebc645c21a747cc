-- `checks::internal::date_errors` meets its contract. Assumes nothing.
use mathlib.Core.Path.{◌≡◌, sym, ap, ◌∙◌}
use mathlib.Core.Bool.{true, false, not}
use Prim.Native.Nat.{ℕ}
use lib.Dec.{eqb}
use Rattle.layout.specs.Fields.{one_of}
use Rattle.rules.specs.Opening.{is_date}
use Rattle.rules.specs.Receiving.{when, date_errors}
use Rattle.errors.specs.Listed.{listed, named, idc_table, idc_in}
use Rattle.checks.proofs.Groups.{tested}
use Rattle.checks.proofs.internal.date_errors.Goals as goal

pub returns-then-is_date : goal.returns-then-is_date
unfolding date_errors named idc_table idc_in one_of
returns-then-is_date c =
    let a = c.args in
    let h : is_date a.date ≡ true = sym c.is_date.ensures ∙ c.if-is_date.true in
    (rw h (tested (listed a.e) (listed c.with.result) _ _ _ (ap (λ (n : ℕ). not (eqb n a.execution)) c.unwrap_or.ensures) c.with.ensures.0), c.with.ensures.1)

pub returns : goal.returns
unfolding date_errors named idc_table idc_in one_of when
returns c =
    let a = c.args in
    let h : is_date a.date ≡ false = sym c.is_date.ensures ∙ c.if-is_date.false in
    (rw h c.with-2.ensures.0, c.with-2.ensures.1)
