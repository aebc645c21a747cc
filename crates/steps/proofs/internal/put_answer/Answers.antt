-- `steps::internal::put_answer` meets its contract. Assumes nothing.
use Rattle.std.specs.Prelude.{Result, IfOk, ◌≤◌}
use mathlib.Core.Path.{ap, subst, ◌∙◌}
use Rattle.output.proofs.Output.{said}
use Rattle.errors.specs.declared.Errors.{Errors}
use Rattle.log_rules.specs.Lines.{refused_line}
use Rattle.refusals.specs.declared.Refusal.{Refusal}
use Rattle.refusals.specs.Conditions.{refusal_number}
use Rattle.steps.proofs.Answered.{line_refused}
use Rattle.steps.proofs.internal.put_answer.Goals as goal

pub put_told-requires : goal.put_told-requires
put_told-requires c =
    let p = c.requires.n_bound in
    record {
      m_value = c.requires.m_value (ap refusal_number c.in-Ok.is);
      n_bound = (subst (λ (a : Result Errors Refusal). IfOk a (λ e. e.n ≤ 16)) c.in-Ok.is p.0, p.1, p.2);
      m_value_2 = c.requires.m_value_2;
    }

pub returns-in-Ok : goal.returns-in-Ok
returns-in-Ok c = rw c.in-Ok.is c.put_told.ensures

pub returns-in-Err : goal.returns-in-Err
returns-in-Err c = rw c.in-Err.is (λ k. said (ap refused_line c.number_of.ensures ∙ line_refused _ c.args.s.now) c.put_refused.ensures)
