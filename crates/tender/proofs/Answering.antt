-- What a reception gives: refused, nothing; else what the rules answer. Assumes nothing.
use Rattle.std.specs.Prelude.{Ok, Err}
use mathlib.Core.Path.{◌≡◌, refl, sym, ap, subst}
use mathlib.Core.Bool.{false}
use mathlib.Core.List.{List}
use mathlib.Core.Option.{none, some}
use Prim.Native.Nat.{ℕ, ◌≤◌}
use Rattle.output.specs.Output.{Wrote}
use Rattle.rules.specs.Opening.{admitting}
use Rattle.rules.specs.Receiving.{Reception, Error, Entry, is_empty}
use Rattle.rules.specs.Calls as rules
use Rattle.rules.specs.Calls.{reply, receiving_refused, receive}
use Rattle.rules.specs.Events.{Kept}
use Rattle.errors.specs.declared.Errors.{Errors}
use Rattle.errors.specs.Listed.{listed}
use Rattle.terms.specs.Viewed as terms
use Rattle.book.specs.declared.Book.{Book}
use Rattle.book.specs.Viewed as book
use Rattle.reception.specs.Submission.{submitted}
use Rattle.refusals.specs.declared.Refusal.{Refusal}
use Rattle.refusals.specs.Conditions.{number_of}
use Rattle.outcomes.specs.Answers.{Answers}
use Rattle.outcomes.proofs.Answering.{answers-refused, answered_leaves, codes-left, kept-left, answers-left}
use Rattle.tender.specs.declared.Tender.{Tender}
use Rattle.tender.specs.Viewed.{viewed, Given, tender_of}
use Rattle.tender.specs.Calls.{Receives}

-- refused: the tender and the space as they were
pub receives-refused : (t : Tender) → Given t → (x : Reception) (f : Refusal) → some (number_of f) ≡ receiving_refused (viewed t) x
    → Receives t (receive (viewed t) x) (record { answer = Err f; tender = t }) x.space
receives-refused t g x f h = record { answers = answers-refused (viewed t) x f h; unchanged = refl; given = g }

-- not refused: what the message left in the book, and its reply
module _ (t : Tender) (g : Given t) (x : Reception) (e : Errors) (n : ℕ) (next : Book) (after : List ℕ)
    (left : ◌≡◌ {A = List Error × List Entry} (listed e, book.viewed next) (submitted (viewed t).terms (viewed t).book x))
    (capped : book.limits_in next ≡ book.limits_in t.book) where
  abbrev tender : Tender
  tender = tender_of t.state t.terms next

  -- the codes of the book and their limits stay
  tender_is : viewed tender ≡ record { terms = (viewed t).terms; state = (viewed t).state; book = book.viewed next }
  tender_is =
      let codes = codes-left (viewed t) x e n (book.viewed next) after left g in
      λ i. record { terms = terms.viewed t.terms (admitting (codes i) (capped i)); state = (viewed t).state; book = book.viewed next }

  pub receives-answered : receiving_refused (viewed t) x ≡ none → (is_empty (listed e) ≡ false → next ≡ t.book) → e.n ≤ 16
      → Wrote x.space 0 (reply (listed e) t.terms.identifier x.message x.time) after n
      → Receives t (receive (viewed t) x) (record { answer = Ok (record { errors = e; length = n }); tender = tender }) after
  receives-answered none_holds same few wrote =
      record {
        answers =
            subst (λ (u : rules.Tender). Answers (receive (viewed t) x) (Ok (record { errors = e; length = n })) u after) (sym tender_is)
            (answers-left (viewed t) x e n (book.viewed next) after left none_holds few wrote);
        unchanged = answered_leaves (record { errors = e; length = n }) t tender tender (λ k. refl) (λ h. ap (tender_of t.state t.terms) (same h));
        given = subst Kept (sym tender_is) (kept-left (viewed t) x e n (book.viewed next) after left g);
      }
