-- `in_place::internal::receive_in` meets its contract: refused, or answered and left. Assumes nothing.
use Rattle.std.specs.Prelude.{Ok}
use mathlib.Core.Path.{◌≡◌, refl, sym, subst}
use native.Mathlib.Omega.{arith}
use lib.ListN.{length}
use Rattle.output.specs.Output.{Wrote}
use Rattle.rules.specs.Calls as rules
use Rattle.rules.specs.Calls.{reply, receive}
use Rattle.errors.specs.Listed.{listed}
use Rattle.terms.specs.declared.Terms.{Terms}
use Rattle.book.specs.Viewed.{viewed}
use Rattle.checks.specs.Columns.{reception_of}
use Rattle.outcomes.specs.Outcomes.{entries_after}
use Rattle.outcomes.specs.Answers.{Answers}
use Rattle.outcomes.proofs.Answering.{answers-refused, answers-left}
use Rattle.buffer.specs.Words.{book_in, tender_in}
use Rattle.buffer.proofs.Words.{known}
use Rattle.in_place.proofs.Leaving.{numbers-left}
use borrow.Author.Rules.{rules}
use Rattle.in_place.proofs.internal.receive_in.Goals as goal

pub terms_in-terms-requires : goal.terms_in-terms-requires
terms_in-terms-requires c = (known c.args.words.now c.requires).long

pub put_reply-length-requires : goal.put_reply-length-requires
put_reply-length-requires c =
    let e = c.in-Ok.ensures.comes in
    record { m_value = e.readable-told refl; n_bound = (e.few, e.roomy refl) }

pub leave_in-requires : goal.leave_in-requires
leave_in-requires c = (c.requires, c.in-Ok.ensures.comes.within)

pub returns-in-Ok : goal.returns-in-Ok
returns-in-Ok c =
    let o = c.in-Ok.o in
    let e = c.in-Ok.ensures in
    let sixteen : length o.errors.codes ≡ 16 = search rules in
    let a = c.args in
    let ws = a.words.now in
    let x = reception_of a.m.now a.date a.time a.space.now in
    let n = c.put_reply-length.result in
    let after = c.put_reply-length.new.space in
    let wrote = subst (λ (t : Terms). Wrote a.space.now 0 (reply (listed o.errors) t.identifier a.m.now a.time) after n) c.terms_in-terms.ensures c.put_reply-length.ensures in
    record {
      answers =
          subst (λ (t : rules.Tender). Answers (receive (tender_in ws) x) (Ok (record { errors = o.errors; length = n })) t after) (sym c.leave_in.ensures.tender_is)
          (answers-left (tender_in ws) x o.errors n (entries_after (viewed (book_in ws)) o) after (e.comes.left a.space.now) (sym (e.comes.number a.space.now refl)) e.comes.few wrote);
      numbers = numbers-left ws a.m.now _ o n (omega (arith, sixteen)) e.accepts c.leave_in.ensures.numbers;
      given = c.leave_in.ensures.given;
    }

pub returns-in-Err : goal.returns-in-Err
returns-in-Err c =
    let a = c.args in
    let ws = a.words.now in
    record {
      answers = answers-refused (tender_in ws) (reception_of a.m.now a.date a.time a.space.now) c.in-Err.refusal (c.in-Err.ensures.comes.number a.space.now refl);
      numbers = refl;
      given = c.requires;
    }
