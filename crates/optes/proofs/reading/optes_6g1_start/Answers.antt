-- `optes::reading::optes_6g1_start` meets its contract. Assumes nothing.
use mathlib.Core.Path.{◌≡◌, sym, ◌∙◌}
use mathlib.Core.Bool.{true}
use native.Mathlib.Omega.{arith}
use Rattle.layout.proofs.Fields.{offset-within}
use Rattle.numbers.specs.ByNumber.{has_field, start_of}
use Rattle.numbers.proofs.ByNumber.{whole_there}
use Rattle.optes.proofs.reading.optes_6g1_start.Goals as goal

pub offset_of-requires : goal.offset_of-requires
offset_of-requires c =
    let there : has_field c.args.field c.args.m.now ≡ true = sym c.field_there.ensures ∙ c.if-field_there.true in
    whole_there c.args.field c.args.m.now there

pub overflow_add-result : goal.overflow_add-result
overflow_add-result c =
    let there : has_field c.args.field c.args.m.now ≡ true = sym c.field_there.ensures ∙ c.if-field_there.true in
    let a = c.args in
    omega (arith, offset-within a.field a.m.now c.offset_of.result (whole_there a.field a.m.now there) c.offset_of.ensures)

pub returns-then-field_there : goal.returns-then-field_there
unfolding start_of
returns-then-field_there c =
    let there : has_field c.args.field c.args.m.now ≡ true = sym c.field_there.ensures ∙ c.if-field_there.true in
    rw (there, c.offset_of.ensures)

pub returns-else-field_there : goal.returns-else-field_there
unfolding start_of
returns-else-field_there c = rw (sym c.field_there.ensures ∙ c.if-field_there.false)
