-- `announcement::internal::bytes_in` meets its contract. Assumes nothing.
use mathlib.Core.Path.{ap, ◌∙◌}
use Prim.Native.Nat.{ℕ}
use Rattle.layout.specs.Fields.{content}
use Rattle.layout.proofs.ReturnTrip.{field-read}
use Rattle.announcement.specs.Announcement.{entry_of, layout6_g0, position}
use Rattle.announcement.proofs.Fields6G0.{placed, whole-field}
use Rattle.announcement.proofs.internal.bytes_in.Goals as goal

pub contents-requires : goal.contents-requires
contents-requires c = rw c.position_of.ensures (whole-field c.args.m.now c.requires c.args.f)

pub returns : goal.returns
returns c =
    let a = c.args in
    field-read layout6_g0 a.m.now c.requires (position a.f) (entry_of a.f) (placed a.f) (c.contents.ensures ∙ ap (λ (k : ℕ). content k a.m.now) c.position_of.ensures)
