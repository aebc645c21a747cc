-- `envelope::application::put_bids` meets its contract. Assumes nothing.
use borrow.Author.Rules.{rules}
use mathlib.Core.Path.{◌≡◌}
use native.Mathlib.Omega.{arith}
use lib.ListN.{length}
use Rattle.output.proofs.Output.{then, said}
use Rattle.envelope.proofs.Writing.{bids-field}
use Rattle.envelope.proofs.application.put_bids.Goals as goal

pub returns : goal.returns
returns c =
    let ten_rates : length c.args.rates ≡ 10 = search rules in
    let ten_amounts : length c.args.amounts ≡ 10 = search rules in
    let start = c in
    let a = start.args in
    (said (bids-field 0x76 a.rates a.amounts (ten_rates) (ten_amounts)) (then (omega arith) c.put_head-start.ensures c.put_places.ensures.0), search rules)
