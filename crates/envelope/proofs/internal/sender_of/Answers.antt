-- `envelope::internal::sender_of` meets its contract. Assumes nothing.
use mathlib.Core.Path.{ap, ◌∙◌}
use native.Mathlib.Omega.{arith}
use Rattle.addresses.specs.Addresses.{address_of}
use Rattle.envelope.proofs.Fields6G1.{at_least_339, sender_read}
use Rattle.envelope.proofs.internal.sender_of.Goals as goal

pub length_at-w-requires : goal.length_at-w-requires
length_at-w-requires c = omega (arith, at_least_339 c.args.m.now c.requires)

pub address_at-requires : goal.address_at-requires
address_at-requires c =
    let start = c in
    let f = sender_read start.args.m.now start.requires c.length_at-w.result c.length_at-w.ensures.0 in
    (omega arith, f.0, f.1, omega (arith, f.2))

pub returns : goal.returns
returns c =
    let start = c in
    let f = sender_read start.args.m.now start.requires c.length_at-w.result c.length_at-w.ensures.0 in
    c.address_at.ensures ∙ ap address_of f.3
