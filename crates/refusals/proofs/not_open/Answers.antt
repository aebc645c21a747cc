-- `refusals::not_open` meets its contract. Assumes nothing.
use mathlib.Core.Path.{◌≡◌, ◌∙◌}
use Rattle.envelope.specs.Refusals.{first_holding}
use Rattle.rules.specs.Calls.{is_revoked, is_over}
use Rattle.refusals.specs.declared.State.{State}
use Rattle.refusals.specs.declared.State.TheVariants as state
use Rattle.refusals.specs.Conditions.{state_of, not_open}
use Rattle.refusals.proofs.Conditions.{in_state_lem}
use Rattle.refusals.proofs.not_open.Goals as goal

pub returns-in-Open : goal.returns-in-Open
unfolding first_holding is_revoked is_over
returns-in-Open c =
    let number_in_lem : (found : State) → c.args.state ≡ found → not_open (state_of found) c.args.date c.args.time ≡ not_open (state_of c.args.state) c.args.date c.args.time = in_state_lem (λ s. not_open s c.args.date c.args.time) c.args.state in
    c.clock_refusal.ensures ∙ number_in_lem state.Open c.in-Open.is

pub returns-in-Closed : goal.returns-in-Closed
unfolding first_holding is_revoked is_over
returns-in-Closed c =
    let number_in_lem : (found : State) → c.args.state ≡ found → not_open (state_of found) c.args.date c.args.time ≡ not_open (state_of c.args.state) c.args.date c.args.time = in_state_lem (λ s. not_open s c.args.date c.args.time) c.args.state in
    number_in_lem state.Closed c.in-Closed.is

pub returns-in-Announced : goal.returns-in-Announced
unfolding first_holding is_revoked is_over
returns-in-Announced c =
    let number_in_lem : (found : State) → c.args.state ≡ found → not_open (state_of found) c.args.date c.args.time ≡ not_open (state_of c.args.state) c.args.date c.args.time = in_state_lem (λ s. not_open s c.args.date c.args.time) c.args.state in
    number_in_lem state.Announced c.in-Announced.is

pub returns-in-Revoked : goal.returns-in-Revoked
unfolding first_holding is_revoked is_over
returns-in-Revoked c =
    let number_in_lem : (found : State) → c.args.state ≡ found → not_open (state_of found) c.args.date c.args.time ≡ not_open (state_of c.args.state) c.args.date c.args.time = in_state_lem (λ s. not_open s c.args.date c.args.time) c.args.state in
    number_in_lem state.Revoked c.in-Revoked.is
