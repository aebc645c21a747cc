-- `division::internal::times` meets its contract. Assumes nothing.
use Rattle.std.proofs.Common.{◌*◌, leb, arith}
use Rattle.division.proofs.Rounds.{times_is, at_most_once}
use Rattle.division.proofs.internal.times.Goals as goal

pub overflow_add-result : goal.overflow_add-result
overflow_add-result c = omega (arith, at_most_once (leb c.args.e c.args.t), at_most_once (leb (2 * c.args.e) c.args.t))

pub returns : goal.returns
returns c = omega (arith, c.from.ensures, c.from-2.ensures, times_is c.args.t c.args.e c.requires.t_bound)
