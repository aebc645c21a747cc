-- `cuts::is_capped` meets its contract. Assumes nothing.
use mathlib.Core.Path.{sym, ap}
use mathlib.Core.Bool.{not, ◌&&◌}
use lib.Dec.{eqb}
use Rattle.announcement.specs.declared.Side.{Side}
use Rattle.rules.specs.Cuts.{invests, is_capped}
use Rattle.cuts.proofs.is_capped.Goals as goal

pub returns-in-La : goal.returns-in-La
unfolding is_capped invests
returns-in-La c = sym (ap (λ (d : Side). invests d && not (eqb c.args.cap 0)) c.in-La.is)

pub returns-in-Lp : goal.returns-in-Lp
unfolding is_capped invests
returns-in-Lp c = sym (ap (λ (d : Side). invests d && not (eqb c.args.cap 0)) c.in-Lp.is)
