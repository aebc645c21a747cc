-- `envelope::internal::recipient_digits` meets its contract. Assumes nothing.
use mathlib.Core.Path.{sym, ap, ◌∙◌}
use native.Mathlib.Omega.{arith}
use Rattle.addresses.specs.Addresses.{code_digits}
use Rattle.envelope.proofs.Fields6G1.{at_least_339, short_recipient}
use Rattle.envelope.proofs.internal.recipient_digits.Goals as goal

pub number_at-requires : goal.number_at-requires
number_at-requires c = (omega arith, omega arith, omega arith, omega (arith, at_least_339 c.args.m.now c.requires))

pub returns-then-both_short : goal.returns-then-both_short
returns-then-both_short c =
    let start = c in
    c.number_at.ensures ∙ short_recipient start.args.m.now start.requires (sym c.both_short.ensures ∙ c.if-both_short.true)

pub returns : goal.returns
returns c = c.code_digits.ensures ∙ ap code_digits c.recipient_of.ensures
