-- `reception::internal::returned_errors` meets its contract. Assumes nothing.
use borrow.Author.Rules.{rules}
use mathlib.Core.Path.{◌≡◌, refl, sym, ap, ◌∙◌}
use native.Mathlib.Omega.{arith}
use lib.ListN.{length}
use Rattle.layout.specs.Fields.{one_of}
use Rattle.digits.specs.Decimal.{number_in}
use Rattle.addresses.specs.Addresses.{code_in}
use Rattle.errors.specs.Listed.{idc_table, idc_in, named}
use Rattle.terms.specs.Viewed as terms
use Rattle.bids.specs.Columns.{bids_from}
use Rattle.book.specs.Viewed.{viewed, is_at, admission_of}
use Rattle.checks.specs.Columns.{reception_of}
use Rattle.reception.proofs.Admission.{admitted_is}
use Rattle.reception.proofs.Judging.{judged}
use Rattle.reception.proofs.Submission.{taken_from, submission_is}
use Rattle.reception.proofs.internal.returned_errors.Goals as goal

pub returns : goal.returns
unfolding named idc_in idc_table one_of
returns c =
    let sixteen : length c.errors_of-e.result.codes ≡ 16 = search rules in
    let sixteen_with : length c.with.result.codes ≡ 16 = search rules in
    let e = c in
    let start = e in
    let a = start.args in
    let own = e.errors_of-e.result in (
      λ b space s.
          let t = terms.viewed a.t (admission_of b) in
          let x = reception_of a.m.now a.day a.second space in
          judged t b x (code_in a.f.sender) (number_in a.f.time) (bids_from a.f.places.rates a.f.places.amounts 0 10) c.with.result (omega (arith, sixteen_with)) a.found a.taken s own (omega (arith, sixteen))
          (e.errors_of-e.ensures.0 (admission_of b) space (e.is_some.ensures ∙ ap is_at s.found_is ∙ sym (admitted_is (viewed b) (code_in a.f.sender) 0)))
          (λ empty. submission_is t (viewed b) x start.requires.m_value start.requires.second_value empty ∙ taken_from a.m.now a.f (code_in a.f.sender) (number_in a.f.time) start.requires.f_value refl refl)
          (rw c.is_empty.ensures at c.with.ensures.0),
      omega (arith, e.errors_of-e.ensures.1, c.with.ensures.1),
    )
