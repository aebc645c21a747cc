-- `in_place::internal::outcome_in` meets its contract: refused, or judged where the code stands in the words. Assumes nothing.
use borrow.Author.Rules.{rules}
use Rattle.std.specs.Prelude.{Ok, Err}
use mathlib.Core.Path.{◌≡◌, refl, ap, ap₂, subst, ◌∙◌}
use Prim.Native.Nat.{ℕ, ◌≤◌}
use native.Mathlib.Omega.{arith}
use lib.ListN.{length, get_or}
use Rattle.addresses.specs.Addresses.{code_in}
use Rattle.envelope.specs.declared.application.Fields.{Fields}
use Rattle.book.specs.Viewed.{viewed, find_from, taken_at}
use Rattle.book.proofs.Joining.{index_below}
use Rattle.terms.specs.declared.Terms.{Terms}
use Rattle.refusals.specs.declared.State.{State}
use Rattle.outcomes.specs.Outcomes.{Checks, LeavesInAny, accepted_of}
use Rattle.outcomes.proofs.Outcomes.{comes-refused, comes_judged}
use Rattle.buffer.specs.Words.{tender_words, state_in, terms_in, book_in}
use Rattle.buffer.proofs.Words.{known, codes_rise}
use Rattle.in_place.proofs.internal.outcome_in.Goals as goal

pub bounds-words-1 : goal.bounds-words-1
bounds-words-1 c =
    let long : tender_words ≤ length c.args.words.now = (known c.args.words.now c.requires).long in
    let h = long in omega (arith, h)

pub returns-in_err-fields : goal.returns-in_err-fields
returns-in_err-fields c =
    let a = c.args in
    let ws = a.words.now in
    let f = c.in_err-fields.field-0.0 in
    let told : c.from_residual.result ≡ Err f = search rules in
    let checks : Checks (state_in (get_or ws 1 0)) a.m.now a.date a.time a.room (Err f) =
    subst (λ (s : State). Checks s a.m.now a.date a.time a.room (Err f)) c.state_of.ensures c.in_err-fields.ensures in
    rw told (record { comes = comes-refused (state_in (get_or ws 1 0)) (terms_in ws) (book_in ws) a.m.now a.date a.time a.room f checks; accepts = tt })

pub takes-taken-requires : goal.takes-taken-requires
takes-taken-requires c =
    let long : tender_words ≤ length c.args.words.now = (known c.args.words.now c.requires).long in
    let f = c in
    let start = f in
    (long, index_below (book_in start.args.words.now) f.code_of.result f.find-found.result f.find-found.ensures)

pub terms_in-terms-requires : goal.terms_in-terms-requires
terms_in-terms-requires c =
    let long : tender_words ≤ length c.args.words.now = (known c.args.words.now c.requires).long in
    long

pub judged-requires : goal.judged-requires
judged-requires c =
    let e = c.in_ok-fields.ensures in
    record { m_value = e.readable-told refl; f_value = e.fields_are; time_value = e.clock_valid refl }

pub returns : goal.returns
returns c =
    let a = c.args in
    let ws = a.words.now in
    let r = c.in_ok-fields.fields in
    let checks : Checks (state_in (get_or ws 1 0)) a.m.now a.date a.time a.room (Ok r) =
    subst (λ (s : State). Checks s a.m.now a.date a.time a.room (Ok r)) c.state_of.ensures c.in_ok-fields.ensures in
    let found = c.find-found.ensures ∙ ap (λ (code : ℕ). find_from (viewed (book_in ws)) code 0) c.code_of.ensures in
    let taken = c.takes-taken.ensures ∙ ap (taken_at (book_in ws) c.find-found.result) c.unwrap_or-sent.ensures in
    let left = subst (λ (x : Terms). LeavesInAny x c.find-found.result c.takes-taken.result a.m.now r a.date a.time c.judged.result) c.terms_in-terms.ensures c.judged.ensures in
    let fields = checks.fields_are in
    record {
      comes = comes_judged (state_in (get_or ws 1 0)) (terms_in ws) (book_in ws) a.m.now a.date a.time a.room r checks c.find-found.result c.takes-taken.result
          (record { rises = codes_rise ws (known ws c.requires); found_is = found; taken_is = taken }) c.judged.result left;
      accepts = left.1 ∙ ap₂ accepted_of (found ∙ ap (λ (x : Fields). find_from (viewed (book_in ws)) (code_in x.sender) 0) fields) fields;
    }
