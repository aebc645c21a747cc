-- `envelope::internal::start_of` meets its contract. Assumes nothing.
use mathlib.Core.Path.{◌≡◌, sym, ap, ◌∙◌}
use mathlib.Core.Bool.{true}
use mathlib.Core.List.{List}
use Prim.Native.Nat.{ℕ, ◌+◌, ◌≤◌}
use native.Mathlib.Omega.{arith}
use lib.ListN.{length}
use Rattle.layout.specs.Fields.{offset, readable}
use Rattle.envelope.specs.declared.application.Field.{Field}
use Rattle.envelope.specs.declared.application.Field.TheVariants.{MessageType, Sender, Recipient, Cro, Date, Time, Check, Identifier, Bids, Name}
use Rattle.envelope.specs.Application.{position, layout6_g1}
use Rattle.envelope.proofs.Fields6G1.{start_in, at_least_339, start_is}
use Rattle.envelope.proofs.internal.start_of.Goals as goal

-- the start of the field that f is
start : (m : List ℕ) (f g : Field) → readable layout6_g1 m ≡ true → f ≡ g → start_in g m ≡ offset (position f) m + 3
start m f g r e = start_is m r g ∙ sym (ap (λ (x : Field). offset (position x) m + 3) e)

pub length_at-requires : goal.length_at-requires
length_at-requires c =
    let least : 339 ≤ length c.args.m.now = at_least_339 c.args.m.now c.requires in
    omega (arith, least)

pub overflow_sub-result : goal.overflow_sub-result
overflow_sub-result c =
    let least : 339 ≤ length c.args.m.now = at_least_339 c.args.m.now c.requires in
    omega (arith, least)

pub overflow_sub-result-in-Date : goal.overflow_sub-result-in-Date
overflow_sub-result-in-Date c =
    let least : 339 ≤ length c.args.m.now = at_least_339 c.args.m.now c.requires in
    omega (arith, least)

pub overflow_sub-result-in-Time : goal.overflow_sub-result-in-Time
overflow_sub-result-in-Time c =
    let least : 339 ≤ length c.args.m.now = at_least_339 c.args.m.now c.requires in
    omega (arith, least)

pub overflow_sub-result-in-Check : goal.overflow_sub-result-in-Check
overflow_sub-result-in-Check c =
    let least : 339 ≤ length c.args.m.now = at_least_339 c.args.m.now c.requires in
    omega (arith, least)

pub overflow_sub-result-in-Identifier : goal.overflow_sub-result-in-Identifier
overflow_sub-result-in-Identifier c =
    let least : 339 ≤ length c.args.m.now = at_least_339 c.args.m.now c.requires in
    omega (arith, least)

pub bids_start-requires : goal.bids_start-requires
bids_start-requires c =
    let least : 339 ≤ length c.args.m.now = at_least_339 c.args.m.now c.requires in
    least

pub overflow_sub-result-in-Name : goal.overflow_sub-result-in-Name
overflow_sub-result-in-Name c =
    let least : 339 ≤ length c.args.m.now = at_least_339 c.args.m.now c.requires in
    omega (arith, least)

pub returns-in-MessageType : goal.returns-in-MessageType
returns-in-MessageType c = start c.args.m.now c.args.f MessageType c.requires c.in-MessageType.is

pub returns-in-Sender : goal.returns-in-Sender
returns-in-Sender c = start c.args.m.now c.args.f Sender c.requires c.in-Sender.is

pub returns-in-Recipient : goal.returns-in-Recipient
returns-in-Recipient c = ap (λ (w : ℕ). 12 + w) c.length_at.ensures.0 ∙ start c.args.m.now c.args.f Recipient c.requires c.in-Recipient.is

pub returns-in-Cro : goal.returns-in-Cro
returns-in-Cro c = start c.args.m.now c.args.f Cro c.requires c.in-Cro.is

pub returns-in-Date : goal.returns-in-Date
returns-in-Date c = start c.args.m.now c.args.f Date c.requires c.in-Date.is

pub returns-in-Time : goal.returns-in-Time
returns-in-Time c = start c.args.m.now c.args.f Time c.requires c.in-Time.is

pub returns-in-Check : goal.returns-in-Check
returns-in-Check c = start c.args.m.now c.args.f Check c.requires c.in-Check.is

pub returns-in-Identifier : goal.returns-in-Identifier
returns-in-Identifier c = start c.args.m.now c.args.f Identifier c.requires c.in-Identifier.is

pub returns-in-Bids : goal.returns-in-Bids
returns-in-Bids c = c.bids_start.ensures ∙ start c.args.m.now c.args.f Bids c.requires c.in-Bids.is

pub returns-in-Name : goal.returns-in-Name
returns-in-Name c = start c.args.m.now c.args.f Name c.requires c.in-Name.is
