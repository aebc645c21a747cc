-- `refusals::not_closed` meets its contract. Assumes nothing.
use Rattle.envelope.specs.Refusals.{first_holding}
use Rattle.rules.specs.Calls.{is_revoked, is_open, is_announced}
use Rattle.refusals.specs.declared.State.TheVariants as state
use Rattle.refusals.specs.Conditions.{not_closed}
use Rattle.refusals.proofs.Conditions.{in_state_lem}
use Rattle.refusals.proofs.not_closed.Goals as goal

pub returns-in-Open : goal.returns-in-Open
unfolding first_holding is_revoked is_open is_announced
returns-in-Open c = in_state_lem not_closed c.args.state state.Open c.in-Open.is

pub returns-in-Closed : goal.returns-in-Closed
unfolding first_holding is_revoked is_open is_announced
returns-in-Closed c = in_state_lem not_closed c.args.state state.Closed c.in-Closed.is

pub returns-in-Announced : goal.returns-in-Announced
unfolding first_holding is_revoked is_open is_announced
returns-in-Announced c = in_state_lem not_closed c.args.state state.Announced c.in-Announced.is

pub returns-in-Revoked : goal.returns-in-Revoked
unfolding first_holding is_revoked is_open is_announced
returns-in-Revoked c = in_state_lem not_closed c.args.state state.Revoked c.in-Revoked.is
