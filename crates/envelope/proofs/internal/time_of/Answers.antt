-- `envelope::internal::time_of` meets its contract. Assumes nothing.
use mathlib.Core.Path.{ap, ◌∙◌}
use native.Mathlib.Omega.{arith}
use Rattle.digits.specs.Decimal.{digits_of}
use Rattle.envelope.specs.declared.application.Field.TheVariants.{Time}
use Rattle.envelope.proofs.Fields6G1.{field_is}
use Rattle.envelope.proofs.internal.time_of.Goals as goal

pub overflow_add-at : goal.overflow_add-at
overflow_add-at c =
    let start = c in
    omega (arith, (field_is start.args.m.now start.requires Time c.start_of-at.result c.start_of-at.ensures).0)

pub number_at-requires : goal.number_at-requires
number_at-requires c =
    let start = c in
    let p = (field_is start.args.m.now start.requires Time c.start_of-at.result c.start_of-at.ensures).0 in
    (omega arith, omega arith, omega (arith, c.start_of-at.ensures), p)

pub returns : goal.returns
returns c =
    let start = c in
    let at = c.start_of-at in
    c.number_at.ensures ∙ ap digits_of (field_is start.args.m.now start.requires Time at.result at.ensures).1
