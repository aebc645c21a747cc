-- `tender::in_state_unless` meets its contract. Assumes nothing.
use Rattle.std.specs.Prelude.{Ok}
use mathlib.Core.Path.{◌≡◌, sym}
use Rattle.tender.proofs.Changing.{changes_refused, changes_state}
use Rattle.tender.proofs.in_state_unless.Goals as goal

pub returns-in-Ok : goal.returns-in-Ok
returns-in-Ok c =
    let a = c.args in
    let asked : a.answer ≡ Ok tt = c.in-Ok.is in
    (sym asked, rw asked (changes_state a.t c.requires a.state c.in_state.result c.in_state.ensures))

pub returns-in-Err : goal.returns-in-Err
returns-in-Err c =
    let a = c.args in
    let asked = c.in-Err.is in
    (sym asked, rw asked (changes_refused a.t c.requires a.state c.in-Err.refusal))
