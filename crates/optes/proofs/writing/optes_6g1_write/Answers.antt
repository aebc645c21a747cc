-- `optes::writing::optes_6g1_write` meets its contract: both addresses are codes. Assumes nothing.
use Rattle.optes.proofs.writing.optes_6g1_write.Goals as goal

pub returns : goal.returns
returns c = c.written.ensures
