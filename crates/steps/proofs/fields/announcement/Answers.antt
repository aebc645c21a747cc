-- `steps::fields::announcement` meets its contract. Assumes nothing.
use Rattle.std.specs.Prelude.{Ok, Err}
use mathlib.Core.Path.{ap}
use Rattle.output.proofs.Output.{said}
use Rattle.log_rules.specs.Lines.{refused_line}
use Rattle.steps.proofs.Announcing.{opens-uncapped, announced, not_announced}
use Rattle.steps.proofs.fields.announcement.Goals as goal

pub returns-in-Ok : goal.returns-in-Ok
returns-in-Ok c =
    let a = c.args in
    let g = c.requires.ready.given in
    announced a.standing a.codes.now a.words.now a.s.now a.space.now g _ (opens-uncapped a.words.now a.s.now a.codes.now a.standing.n (Ok tt) _ g.few c.requires.codes_len.0 c.in-Ok.ensures)

pub returns-in-Err : goal.returns-in-Err
returns-in-Err c =
    let a = c.args in
    let g = c.requires.ready.given in
    let f = c.in-Err.refusal in
    not_announced a.standing a.codes.now a.words.now a.s.now a.space.now g _ f _ _ (opens-uncapped a.words.now a.s.now a.codes.now a.standing.n (Err f) _ g.few c.requires.codes_len.0 c.in-Err.ensures)
    (said (ap refused_line c.number_of.ensures) c.put_refused-length.ensures)
