-- `envelope::internal::width_of` meets its contract. Assumes nothing.
use mathlib.Core.Path.{◌≡◌, sym, ap, ◌∙◌}
use mathlib.Core.Bool.{true}
use mathlib.Core.List.{List}
use Prim.Native.Nat.{ℕ, ◌+◌}
use native.Mathlib.Omega.{arith}
use lib.ListN.{length, drop}
use Rattle.layout.specs.Fields.{length_at, readable}
use Rattle.envelope.specs.declared.application.Field.{Field}
use Rattle.envelope.specs.declared.application.Field.TheVariants.{MessageType, Sender, Recipient, Cro, Date, Time, Check, Identifier, Bids, Name}
use Rattle.envelope.specs.Application.{bytes_of, layout6_g1}
use Rattle.envelope.proofs.Fields6G1.{width_in, at_least_339, sender_read, width_is}
use Rattle.envelope.proofs.internal.width_of.Goals as goal

-- the length of the field that f is
width : (m : List ℕ) (f g : Field) → readable layout6_g1 m ≡ true → f ≡ g → width_in g m ≡ length (bytes_of f m)
width m f g r e = width_is m r g ∙ sym (ap (λ (x : Field). length (bytes_of x m)) e)

pub length_at-requires : goal.length_at-requires
length_at-requires c = omega (arith, at_least_339 c.args.m.now c.requires)

pub length_at-requires-in-Recipient : goal.length_at-requires-in-Recipient
length_at-requires-in-Recipient c = omega (arith, at_least_339 c.args.m.now c.requires)

pub length_at-requires-in-Recipient-2 : goal.length_at-requires-in-Recipient-2
length_at-requires-in-Recipient-2 c =
    let start = c in
    let f = sender_read start.args.m.now start.requires c.length_at-in-Recipient.result c.length_at-in-Recipient.ensures.0 in
    omega (arith, f.2)

pub returns-in-MessageType : goal.returns-in-MessageType
returns-in-MessageType c = width c.args.m.now c.args.f MessageType c.requires c.in-MessageType.is

pub returns-in-Sender : goal.returns-in-Sender
returns-in-Sender c = c.length_at.ensures.0 ∙ width c.args.m.now c.args.f Sender c.requires c.in-Sender.is

pub returns-in-Recipient : goal.returns-in-Recipient
returns-in-Recipient c =
    let start = c in
    c.length_at-in-Recipient-2.ensures.0 ∙ ap (λ (w : ℕ). length_at (drop (9 + w) start.args.m.now)) c.length_at-in-Recipient.ensures.0 ∙ width c.args.m.now c.args.f Recipient c.requires c.in-Recipient.is

pub returns-in-Cro : goal.returns-in-Cro
returns-in-Cro c = width c.args.m.now c.args.f Cro c.requires c.in-Cro.is

pub returns-in-Date : goal.returns-in-Date
returns-in-Date c = width c.args.m.now c.args.f Date c.requires c.in-Date.is

pub returns-in-Time : goal.returns-in-Time
returns-in-Time c = width c.args.m.now c.args.f Time c.requires c.in-Time.is

pub returns-in-Check : goal.returns-in-Check
returns-in-Check c = width c.args.m.now c.args.f Check c.requires c.in-Check.is

pub returns-in-Identifier : goal.returns-in-Identifier
returns-in-Identifier c = width c.args.m.now c.args.f Identifier c.requires c.in-Identifier.is

pub returns-in-Bids : goal.returns-in-Bids
returns-in-Bids c = width c.args.m.now c.args.f Bids c.requires c.in-Bids.is

pub returns-in-Name : goal.returns-in-Name
returns-in-Name c = width c.args.m.now c.args.f Name c.requires c.in-Name.is
