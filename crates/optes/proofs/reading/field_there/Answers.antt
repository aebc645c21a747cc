-- `optes::reading::field_there` meets its contract. Assumes nothing.
use Rattle.numbers.specs.ByNumber.{has_field}
use Rattle.optes.proofs.reading.field_there.Goals as goal

pub returns : goal.returns
unfolding has_field
returns c = rw c.is_6g1.ensures
