-- `in_place::internal::allot_in` meets its contract. Assumes nothing.
use borrow.Author.Rules.{rules}
use Rattle.std.specs.Prelude.{Ok, Err}
use mathlib.Core.Path.{◌≡◌, refl, ap, subst, ◌∙◌}
use mathlib.Core.Option.{Option, none, some}
use Prim.Native.Nat.{ℕ, ◌≤◌}
use native.Mathlib.Omega.{arith}
use lib.ListN.{length, set}
use Rattle.rules.specs.Calls as rules
use Rattle.refusals.specs.declared.State.{State}
use Rattle.refusals.specs.Conditions.{state_of, number_of, not_closed}
use Rattle.outcomes.specs.Allotting.{AllotsPlaces}
use Rattle.outcomes.proofs.Awarding.{allot_is}
use Rattle.buffer.specs.Words.{tender_words, state_in, tender_in}
use Rattle.buffer.proofs.Words.{known}
use Rattle.buffer_allotment.specs.Allotted.{allotted_in}
use Rattle.in_place.proofs.Changing.{changes_refused, changes_state}
use Rattle.in_place.proofs.internal.allot_in.Goals as goal

pub bounds-words-1 : goal.bounds-words-1
bounds-words-1 c =
    let long : tender_words ≤ length c.args.words.now = (known c.args.words.now c.requires.0).long in
    let h = long in omega (arith, h)

pub returns-in_err-marginal : goal.returns-in_err-marginal
unfolding state_in
returns-in_err-marginal c =
    let ws = c.args.words.now in
    let f = c.in_err-marginal.field-0.0 in
    let told : c.from_residual.result ≡ Err f = search rules in
    let awarded = c.awards_in.new.awards in
    let first = c.not_closed.ensures ∙ ap (λ (s : State). not_closed (state_of s)) c.state_of-state.ensures in
    let change = changes_refused ws c.requires.0 2 _ f refl in
    rw told
    (record {
      equal =
          allot_is (tender_in ws) (some (number_of f)) (allotted_in (Err f) awarded)
          (subst (λ (l : Option ℕ). AllotsPlaces l (tender_in ws) (some (number_of f)) (allotted_in (Err f) awarded)) first c.in_err-marginal.ensures)
          (tender_in ws) (ap (λ (p : Option ℕ × rules.Tender). p.1) change.equal);
      numbers = change.numbers;
      given = change.given;
    })

pub bounds-words-1-2 : goal.bounds-words-1-2
bounds-words-1-2 c =
    let long : tender_words ≤ length c.args.words.now = (known c.args.words.now c.requires.0).long in
    omega (arith, long)

pub returns : goal.returns
unfolding state_in
returns c =
    let ws = c.args.words.now in
    let m = c.in_ok-marginal.marginal in
    let awarded = c.awards_in.new.awards in
    let first = c.not_closed.ensures ∙ ap (λ (s : State). not_closed (state_of s)) c.state_of-state.ensures in
    let change = changes_state ws c.requires.0 2 _ refl (omega arith) in
    record {
      equal =
          allot_is (tender_in ws) none (allotted_in (Ok m) awarded)
          (subst (λ (l : Option ℕ). AllotsPlaces l (tender_in ws) none (allotted_in (Ok m) awarded)) first c.in_ok-marginal.ensures)
          (tender_in (set ws 1 2)) (ap (λ (p : Option ℕ × rules.Tender). p.1) change.equal);
      numbers = change.numbers;
      given = change.given;
    }
