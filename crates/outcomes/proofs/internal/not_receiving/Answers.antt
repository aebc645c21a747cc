-- `outcomes::internal::not_receiving` meets its contract. Assumes nothing.
use borrow.Author.Rules.{rules}
use borrow.Author.Tests.{lt-ltb, le-ltb}
use mathlib.Core.Path.{◌≡◌, refl, sym, ap, ◌∙◌}
use mathlib.Core.Bool.{Bool}
use mathlib.Core.List.{[], ◌∷◌}
use mathlib.Core.Option.{none}
use lib.Dec.{ltb}
use Rattle.envelope.specs.Refusals.{first_holding}
use Rattle.rules.specs.Calls.{is_revoked, is_over, clock_invalid, reply_space}
use Rattle.refusals.specs.Conditions.{state_of, refusal_number, is_some, not_open}
use Rattle.refusals.proofs.Conditions.{refused-first, refused-later}
use Rattle.outcomes.proofs.internal.not_receiving.Goals as goal

pub returns-in_err-not_open : goal.returns-in_err-not_open
returns-in_err-not_open c =
    let a = c.args in
    let s = state_of a.state in
    let l = not_open s a.date a.time in
    let told : refusal_number c.from_residual.result ≡ l = search rules in
    told ∙ sym (refused-first ((8, is_revoked s) ∷ (9, is_over s) ∷ (10, clock_invalid a.date a.time) ∷ []) ((11, ltb a.room reply_space) ∷ []) l refl (ap is_some (sym c.in_err-not_open.ensures)))

pub returns-then-room-lt436 : goal.returns-then-room-lt436
unfolding first_holding
returns-then-room-lt436 c =
    let a = c.args in
    let s = state_of a.state in
    let room_asked = refused-later ((8, is_revoked s) ∷ (9, is_over s) ∷ (10, clock_invalid a.date a.time) ∷ []) ((11, ltb a.room reply_space) ∷ []) none c.in_ok-not_open.ensures refl in
    sym (room_asked ∙ ap (λ (b : Bool). first_holding ((11, b) ∷ [])) (lt-ltb _ _ c.if-room-lt436.true))

pub returns : goal.returns
unfolding first_holding
returns c =
    let a = c.args in
    let s = state_of a.state in
    let room_asked = refused-later ((8, is_revoked s) ∷ (9, is_over s) ∷ (10, clock_invalid a.date a.time) ∷ []) ((11, ltb a.room reply_space) ∷ []) none c.in_ok-not_open.ensures refl in
    sym (room_asked ∙ ap (λ (b : Bool). first_holding ((11, b) ∷ [])) (le-ltb _ _ c.if-room-lt436.false))
