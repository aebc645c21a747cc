-- `steps::fields::put_refusal` meets its contract. Assumes nothing.
use mathlib.Core.Path.{ap, ◌∙◌}
use Rattle.output.proofs.Output.{said, nothing}
use Rattle.log_rules.specs.Lines.{refused_line}
use Rattle.steps.proofs.fields.put_refusal.Goals as goal

pub returns-in-Ok : goal.returns-in-Ok
returns-in-Ok c = rw c.in-Ok.is (nothing c.args.space.now 0)

pub returns-in-Err : goal.returns-in-Err
returns-in-Err c = rw c.in-Err.is (said (ap refused_line c.number_of.ensures) c.put_refused.ensures)
