-- `in_place::internal::close_in` meets its contract. Assumes nothing.
use borrow.Author.Rules.{rules}
use Rattle.std.specs.Prelude.{Err}
use mathlib.Core.Path.{◌≡◌, ap₂, ◌∙◌}
use mathlib.Core.List.{List}
use mathlib.Core.Option.{none, some}
use Prim.Native.Nat.{ℕ, ◌≤◌}
use native.Mathlib.Omega.{arith}
use lib.ListN.{length, get_or}
use Rattle.rules.specs.Calls.{closing_refused, close}
use Rattle.book.specs.Viewed as book
use Rattle.terms.specs.declared.Terms.{Terms}
use Rattle.terms.specs.Viewed as terms
use Rattle.refusals.specs.declared.State.{State}
use Rattle.refusals.specs.Conditions.{number_of, tender_in}
use Rattle.buffer.specs.Words.{tender_words, state_in, book_in}
use Rattle.buffer.specs.Words as buffer
use Rattle.buffer.proofs.Words.{known}
use Rattle.in_place.proofs.Changing.{changes_refused, changes_state}
use Rattle.in_place.proofs.internal.close_in.Goals as goal

-- what closing refuses is asked of the terms and the state in the words
asked : (ws : List ℕ) (date time : ℕ) (t : Terms) (s : State) → t ≡ buffer.terms_in ws → s ≡ state_in (get_or ws 1 0)
    → closing_refused (tender_in (terms.viewed t (book.admission_of (book_in ws))) s (book.viewed (book_in ws))) date time ≡ closing_refused (buffer.tender_in ws) date time
asked ws date time t s e k = ap₂ (λ (x : Terms) (y : State). closing_refused (tender_in (terms.viewed x (book.admission_of (book_in ws))) y (book.viewed (book_in ws))) date time) e k

pub bounds-words-1 : goal.bounds-words-1
bounds-words-1 c =
    let long : tender_words ≤ length c.args.words.now = (known c.args.words.now c.requires).long in
    let h = long in omega (arith, h)

pub terms_in-terms-requires : goal.terms_in-terms-requires
terms_in-terms-requires c =
    let long : tender_words ≤ length c.args.words.now = (known c.args.words.now c.requires).long in
    long

pub returns-in_err-close_refusal : goal.returns-in_err-close_refusal
unfolding close state_in
returns-in_err-close_refusal c =
    let a = c.args in
    let ws = a.words.now in
    let f = c.in_err-close_refusal.field-0.0 in
    let told : c.from_residual.result ≡ Err f = search rules in
    let number : some (number_of f) ≡ closing_refused (buffer.tender_in ws) a.date a.time =
    c.in_err-close_refusal.ensures _ _ ∙ asked ws a.date a.time _ _ c.terms_in-terms.ensures c.state_of-state.ensures in
    rw told (changes_refused ws c.requires 1 _ f number)

pub bounds-words-1-2 : goal.bounds-words-1-2
bounds-words-1-2 c =
    let long : tender_words ≤ length c.args.words.now = (known c.args.words.now c.requires).long in
    let h = long in omega (arith, h)

pub returns : goal.returns
unfolding close state_in
returns c =
    let a = c.args in
    let ws = a.words.now in
    let number : none ≡ closing_refused (buffer.tender_in ws) a.date a.time =
    c.in_ok-close_refusal.ensures _ _ ∙ asked ws a.date a.time _ _ c.terms_in-terms.ensures c.state_of-state.ensures in
    changes_state ws c.requires 1 _ number (omega arith)
