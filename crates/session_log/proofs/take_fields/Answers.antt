-- `session_log::take_fields` meets its contract: one law makes a turn of a run. Assumes nothing.
use Rattle.session_log.proofs.Turns.{taken_by}
use Rattle.session_log.proofs.take_fields.Goals as goal

pub returns-clause-turn : goal.returns-clause-turn
returns-clause-turn c =
    let a = c.args in
    let logged = c.run_in-logged in
    taken_by a.t a.codes.now a.words.now a.input.now a.lines.now logged.result logged.new.codes logged.new.words logged.new.space _ c.requires.0 c.requires.2 logged.ensures
