-- `checks::internal::sender_errors` meets its contract. Assumes nothing.
use mathlib.Core.Path.{◌≡◌, sym, ap, ◌∙◌}
use mathlib.Core.Bool.{true, false}
use mathlib.Core.List.{◌++◌}
use Rattle.layout.specs.Fields.{one_of}
use Rattle.addresses.specs.Addresses.{is_address}
use Rattle.errors.specs.Listed.{listed, named, idc_table, idc_in}
use Rattle.checks.proofs.Groups.{sender_known, sender_unknown}
use Rattle.checks.proofs.internal.sender_errors.Goals as goal

pub returns-then-has_address : goal.returns-then-has_address
unfolding named idc_table idc_in one_of
returns-then-has_address c =
    let a = c.args in
    let h : is_address a.sender ≡ true = sym c.has_address.ensures ∙ c.if-has_address.true in
    (λ codes k. c.with.ensures.0 ∙ ap (λ es. listed a.e ++ es) (sender_known codes a.sender a.admitted h k), c.with.ensures.1)

pub returns : goal.returns
unfolding named idc_table idc_in one_of
returns c =
    let a = c.args in
    let h : is_address a.sender ≡ false = sym c.has_address.ensures ∙ c.if-has_address.false in
    (λ codes k. c.with-2.ensures.0 ∙ ap (λ es. listed a.e ++ es) (sender_unknown codes a.sender h), c.with-2.ensures.1)
