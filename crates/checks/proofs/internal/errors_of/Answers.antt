-- `checks::internal::errors_of` meets its contract. Assumes nothing.
use mathlib.Core.Path.{◌≡◌, ap, ◌∙◌}
use mathlib.Core.List.{List, [], ◌++◌}
use native.Mathlib.Omega.{arith}
use Rattle.texts.specs.Texts.{ascii}
use Rattle.layout.specs.Fields.{one_of}
use Rattle.calendar.specs.Calendar.{later}
use Rattle.envelope.specs.declared.application.Fields.{Fields}
use Rattle.envelope.specs.Application.{fields_of}
use Rattle.rules.specs.Receiving.{Error, when, errors}
use Rattle.terms.specs.Viewed.{viewed}
use Rattle.errors.specs.Listed.{listed, named, idc_table, idc_in}
use Rattle.checks.specs.Columns.{column_errors, head_errors}
use Rattle.checks.proofs.Groups.{added, tested, column_errors_lem}
use Rattle.checks.proofs.internal.errors_of.Goals as goal

pub returns : goal.returns
unfolding errors head_errors named idc_table idc_in one_of
returns c =
    let start = c in
    let a = start.args in
    let m = a.m.now in
    let e : a.f ≡ fields_of m = start.requires.f_value in
    let l1 = listed c.field_errors-head.result in
    let l2 = listed c.place_errors-places.result in
    let l3 = listed c.with.result in
    let h3 : l3 ≡ l2 ++ when (later a.day a.second a.t.execution a.t.cutoff) (ascii "6G5", 301) = tested l2 l3 _ _ _ c.moment_later.ensures c.with.ensures.0 in
    let n1 = c.field_errors-head.ensures.1 in
    let n2 = c.place_errors-places.ensures.1 in
    let n3 = c.with.ensures.1 in (
      λ admission space k.
          let h1 = c.field_errors-head.ensures.0 admission k ∙ ap (λ (f : Fields). head_errors (viewed a.t admission) m f) e in
          let h2 = c.place_errors-places.ensures.0 ∙ ap (λ (f : Fields). l1 ++ column_errors a.t f.places) e ∙ ap (λ (es : List Error). l1 ++ es) (column_errors_lem a.t admission m) in
          added [] l2 l3 _ _ (added [] l1 l2 _ _ h1 h2) h3,
      omega arith,
    )
