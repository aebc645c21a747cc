-- `envelope::internal::cro_of` meets its contract. Assumes nothing.
use mathlib.Core.Path.{ap, ◌∙◌}
use native.Mathlib.Omega.{arith}
use Rattle.digits.specs.Decimal.{digits_of}
use Rattle.envelope.specs.declared.application.Field.TheVariants.{Cro}
use Rattle.envelope.proofs.Fields6G1.{at_least_339, start_is, field_is}
use Rattle.envelope.proofs.internal.cro_of.Goals as goal

pub overflow_add-at : goal.overflow_add-at
overflow_add-at c =
    let start = c in
    omega (arith, (field_is start.args.m.now start.requires Cro c.start_of-at.result c.start_of-at.ensures).0)

pub long_number_at-requires : goal.long_number_at-requires
long_number_at-requires c =
    let start = c in
    let p = (field_is start.args.m.now start.requires Cro c.start_of-at.result c.start_of-at.ensures).0 in
    (omega arith, omega arith, omega (arith, c.start_of-at.ensures, start_is start.args.m.now start.requires Cro, at_least_339 start.args.m.now start.requires), p)

pub returns : goal.returns
returns c =
    let start = c in
    let at = c.start_of-at in
    c.long_number_at.ensures ∙ ap digits_of (field_is start.args.m.now start.requires Cro at.result at.ensures).1
