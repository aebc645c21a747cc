-- `endings::text::past_zeros` meets its contract. Assumes nothing.
use Rattle.endings.proofs.Numbers.{past_first}
use Rattle.endings.proofs.text.past_zeros.Goals as goal

pub returns : goal.returns
returns c = rw (c.unwrap_or.ensures, c.first_other.ensures) (past_first c.args.s.now c.requires)
