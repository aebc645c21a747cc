-- `in_place::internal::revoke_in` meets its contract. Assumes nothing.
use borrow.Author.Rules.{rules}
use Rattle.std.specs.Prelude.{Err}
use mathlib.Core.Path.{◌≡◌, ap, ◌∙◌}
use mathlib.Core.Option.{none, some}
use Prim.Native.Nat.{◌≤◌}
use native.Mathlib.Omega.{arith}
use lib.ListN.{length}
use Rattle.rules.specs.Calls.{revoking_refused, revoke}
use Rattle.refusals.specs.declared.State.{State}
use Rattle.refusals.specs.Conditions.{state_of, number_of, ended}
use Rattle.buffer.specs.Words.{tender_words, state_in}
use Rattle.buffer.specs.Words as buffer
use Rattle.buffer.proofs.Words.{known}
use Rattle.in_place.proofs.Changing.{changes_refused, changes_state}
use Rattle.in_place.proofs.internal.revoke_in.Goals as goal

pub bounds-words-1 : goal.bounds-words-1
bounds-words-1 c =
    let long : tender_words ≤ length c.args.words.now = (known c.args.words.now c.requires).long in
    let h = long in omega (arith, h)

pub returns-in_err-ended_refusal : goal.returns-in_err-ended_refusal
unfolding revoke state_in revoking_refused
returns-in_err-ended_refusal c =
    let ws = c.args.words.now in
    let f = c.in_err-ended_refusal.field-0.0 in
    let told : c.from_residual.result ≡ Err f = search rules in
    let number : some (number_of f) ≡ revoking_refused (buffer.tender_in ws) = c.in_err-ended_refusal.ensures ∙ ap (λ (s : State). ended (state_of s)) c.state_of.ensures in
    rw told (changes_refused ws c.requires 3 _ f number)

pub bounds-words-1-2 : goal.bounds-words-1-2
bounds-words-1-2 c =
    let long : tender_words ≤ length c.args.words.now = (known c.args.words.now c.requires).long in
    let h = long in omega (arith, h)

pub returns : goal.returns
unfolding revoke state_in revoking_refused
returns c =
    let ws = c.args.words.now in
    let number : none ≡ revoking_refused (buffer.tender_in ws) = c.in_ok-ended_refusal.ensures ∙ ap (λ (s : State). ended (state_of s)) c.state_of.ensures in
    changes_state ws c.requires 3 _ number (omega arith)
