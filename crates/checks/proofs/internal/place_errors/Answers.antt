-- `checks::internal::place_errors` meets its contract. Assumes nothing.
use mathlib.Core.Path.{◌≡◌, sym, ◌∙◌}
use mathlib.Core.Bool.{true, false}
use native.Mathlib.Omega.{arith}
use Rattle.layout.specs.Fields.{one_of}
use Rattle.places.specs.Bids.{all_formed}
use Rattle.rules.specs.Receiving.{when}
use Rattle.errors.specs.Listed.{named, idc_table, idc_in}
use Rattle.checks.specs.Columns.{column_errors}
use Rattle.checks.proofs.internal.place_errors.Goals as goal

pub returns-then-all_formed : goal.returns-then-all_formed
unfolding column_errors
returns-then-all_formed c =
    let a = c.args in
    let h : all_formed a.p.formed ≡ true = sym c.all_formed.ensures ∙ c.if-all_formed.true in
    (rw h c.bid_errors.ensures.0, c.bid_errors.ensures.1)

pub returns : goal.returns
unfolding column_errors named idc_table idc_in one_of when
returns c =
    let a = c.args in
    let h : all_formed a.p.formed ≡ false = sym c.all_formed.ensures ∙ c.if-all_formed.false in
    (rw h c.with.ensures.0, omega arith)
