-- `buffer_allotment::internal::preview_in` meets its contract. Assumes nothing.
use mathlib.Core.Path.{ap, subst, ◌∙◌}
use mathlib.Core.Option.{Option}
use Prim.Native.Nat.{ℕ}
use native.Mathlib.Omega.{arith}
use Rattle.refusals.specs.declared.State.{State}
use Rattle.refusals.specs.Conditions.{state_of, refusal_number, ended}
use Rattle.outcomes.specs.Allotting.{AllotsPlaces}
use Rattle.outcomes.proofs.Awarding.{preview_is}
use Rattle.buffer.specs.Words.{tender_in}
use Rattle.buffer.proofs.Words.{known}
use Rattle.buffer_allotment.specs.Allotted.{allotted_in}
use Rattle.buffer_allotment.proofs.internal.preview_in.Goals as goal

pub bounds-words-1 : goal.bounds-words-1
bounds-words-1 c =
    let s = c in
    let h = (known s.args.words.now s.requires.0).long in
    omega (arith, h)

pub returns : goal.returns
returns c =
    let a = c.awards_in in
    let e = c in
    let ws = c.args.words.now in
    preview_is (tender_in ws) (refusal_number a.result) (allotted_in a.result a.new.awards)
    (subst (λ (l : Option ℕ). AllotsPlaces l (tender_in ws) (refusal_number a.result) (allotted_in a.result a.new.awards))
    (e.ended_refusal.ensures ∙ ap (λ (s : State). ended (state_of s)) e.state_of-state.ensures) a.ensures)
