-- `terms::codes_bad` meets its contract. Assumes nothing.
use Rattle.terms.proofs.Codes.{codes_bad}
use Rattle.terms.proofs.codes_bad.Goals as goal

pub returns : goal.returns
returns c = rw c.codes_rise.ensures (codes_bad c.args.codes.now)
