-- `refusals::close_refusal` meets its contract. Assumes nothing.
use Rattle.std.proofs.Common.{rules}
use mathlib.Core.Path.{◌≡◌, refl, sym, ap, ◌∙◌}
use mathlib.Core.Bool.{Bool, not}
use mathlib.Core.List.{[], ◌∷◌}
use mathlib.Core.Option.{none}
use Rattle.envelope.specs.Refusals.{first_holding}
use Rattle.rules.specs.Calls.{is_revoked, is_over, clock_invalid, before_cut_off, closing_refused}
use Rattle.terms.specs.Viewed.{viewed}
use Rattle.refusals.specs.Conditions.{state_of, refusal_number, is_some, not_open}
use Rattle.refusals.proofs.Conditions.{refused-first, refused-later}
use Rattle.refusals.proofs.close_refusal.Goals as goal

pub returns-in_err-not_open : goal.returns-in_err-not_open
unfolding closing_refused
returns-in_err-not_open c =
    λ admission book. let a = c.args in
    let s = state_of a.state in
    let l = not_open s a.date a.time in
    let told : refusal_number c.from_residual.result ≡ l = search rules in
    told ∙ sym (refused-first ((8, is_revoked s) ∷ (9, is_over s) ∷ (10, clock_invalid a.date a.time) ∷ []) ((13, before_cut_off (viewed a.terms admission) a.date a.time) ∷ []) l refl (ap is_some (sym c.in_err-not_open.ensures)))

pub returns-then-moment_later : goal.returns-then-moment_later
unfolding first_holding before_cut_off closing_refused
returns-then-moment_later c =
    λ admission book. let a = c.args in
    let s = state_of a.state in
    let last_asked = refused-later ((8, is_revoked s) ∷ (9, is_over s) ∷ (10, clock_invalid a.date a.time) ∷ []) ((13, before_cut_off (viewed a.terms admission) a.date a.time) ∷ []) none c.in_ok-not_open.ensures refl in
    sym (last_asked ∙ ap (λ (b : Bool). first_holding ((13, not b) ∷ [])) (sym c.moment_later.ensures ∙ c.if-moment_later.true))

pub returns : goal.returns
unfolding first_holding before_cut_off closing_refused
returns c =
    λ admission book. let a = c.args in
    let s = state_of a.state in
    let last_asked = refused-later ((8, is_revoked s) ∷ (9, is_over s) ∷ (10, clock_invalid a.date a.time) ∷ []) ((13, before_cut_off (viewed a.terms admission) a.date a.time) ∷ []) none c.in_ok-not_open.ensures refl in
    sym (last_asked ∙ ap (λ (b : Bool). first_holding ((13, not b) ∷ [])) (sym c.moment_later.ensures ∙ c.if-moment_later.false))
