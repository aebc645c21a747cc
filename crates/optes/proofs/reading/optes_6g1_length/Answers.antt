-- `optes::reading::optes_6g1_length` meets its contract. Assumes nothing.
use mathlib.Core.Path.{◌≡◌, sym, ap, ◌∙◌}
use mathlib.Core.Bool.{true}
use lib.ListN.{length}
use Rattle.numbers.specs.ByNumber.{has_field}
use Rattle.optes.specs.Interface.{length_of}
use Rattle.numbers.proofs.ByNumber.{whole_there}
use Rattle.optes.proofs.reading.optes_6g1_length.Goals as goal

pub contents-s-requires : goal.contents-s-requires
contents-s-requires c =
    let there : has_field c.args.field c.args.m.now ≡ true = sym c.field_there.ensures ∙ c.if-field_there.true in
    whole_there c.args.field c.args.m.now there

pub returns-then-field_there : goal.returns-then-field_there
unfolding length_of
returns-then-field_there c =
    let there : has_field c.args.field c.args.m.now ≡ true = sym c.field_there.ensures ∙ c.if-field_there.true in
    rw there (ap length c.contents-s.ensures)

pub returns-else-field_there : goal.returns-else-field_there
unfolding length_of
returns-else-field_there c = rw (sym c.field_there.ensures ∙ c.if-field_there.false)
