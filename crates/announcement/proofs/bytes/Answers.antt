-- `announcement::bytes` meets its contract. Assumes nothing.
use mathlib.Core.Path.{sym, ap₂, ◌∙◌}
use mathlib.Core.Bool.{Bool, cond}
use mathlib.Core.List.{[]}
use Prim.Native.Nat.{ℕ}
use Rattle.layout.specs.Fields.{content}
use Rattle.announcement.specs.Announcement.{field_bytes}
use Rattle.announcement.proofs.Fields6G0.{whole-field}
use Rattle.announcement.proofs.bytes.Goals as goal

pub contents_if-requires : goal.contents_if-requires
contents_if-requires c =
    let a = c.args in
    λ t. rw c.position_of.ensures (whole-field a.m.now (sym c.is_6g0.ensures ∙ t) a.f)

pub returns : goal.returns
unfolding field_bytes
returns c = c.contents_if.ensures ∙ ap₂ (λ (b : Bool) (k : ℕ). cond b (content k c.args.m.now) []) c.is_6g0.ensures c.position_of.ensures
