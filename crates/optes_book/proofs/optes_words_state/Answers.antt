-- `optes_book::optes_words_state` meets its contract. Assumes nothing.
use mathlib.Core.Path.{◌≡◌, sym, ap, ◌∙◌}
use mathlib.Core.Bool.{true}
use native.Mathlib.Omega.{arith}
use borrow.Author.Tests.{not-true, not-false}
use Rattle.refusals.specs.declared.State.{State}
use Rattle.refusals.specs.Conditions.{state_of}
use Rattle.buffer.specs.Words.{is_tender, tender_in}
use Rattle.buffer.proofs.Words.{known}
use Rattle.optes_book.specs.Interface.{state_number}
use Rattle.optes_book.proofs.Calls.{told_not, told-all}
use Rattle.optes_book.proofs.optes_words_state.Goals as goal

pub returns-then-not-is_tender : goal.returns-then-not-is_tender
returns-then-not-is_tender c =
    let ws = c.args.words.now in
    told_not ws (state_number (tender_in ws).state) 100 (sym c.is_tender.ensures ∙ not-true _ c.if-not-is_tender.true-raw)

pub bounds-words-1 : goal.bounds-words-1
bounds-words-1 c =
    let given : is_tender c.args.words.now ≡ true = sym c.is_tender.ensures ∙ not-false _ c.if-not-is_tender.false-raw in
    let k = known _ given in omega (arith, k.long)

pub returns : goal.returns
returns c =
    let given : is_tender c.args.words.now ≡ true = sym c.is_tender.ensures ∙ not-false _ c.if-not-is_tender.false-raw in
    let l = c in
    let ws = l.args.words.now in
    c.state_number.ensures ∙ ap (λ (s : State). state_number (state_of s)) c.state_of-state.ensures ∙ told-all ws (state_number (tender_in ws).state) 100 given
