-- What a reception tells: refused, nothing; else what the rules answer. Assumes nothing.
use Rattle.std.specs.Prelude.{Ok, Err}
use mathlib.Core.Path.{◌≡◌, refl, sym, ap, ap₂, subst, ◌∙◌}
use mathlib.Core.Bool.{Bool, true, false, false≢true}
use mathlib.Core.List.{List, [], ◌∷◌, ◌++◌, map}
use mathlib.Core.Option.{Option, none, some}
use Prim.Native.Nat.{ℕ, ◌<◌, ◌≤◌}
use native.Mathlib.Nat.{zero-add}
use native.Mathlib.Omega.{arith}
use lib.Dec.{ltb}
use lib.ListN.{length, take, drop}
use borrow.Author.Tests.{ltb-true, ltb-false, ne_eqb}
use Rattle.output.specs.Output.{overlay, Wrote}
use Rattle.rules.specs.Receiving.{Reception, Error, Entry, is_empty, returned_errors}
use Rattle.rules.specs.Calls as rules
use Rattle.rules.specs.Calls.{book_after, reply, answer_to, answer_with, answer_unless, receiving_refused, receive, in_space}
use Rattle.errors.specs.declared.Errors.{Errors}
use Rattle.errors.specs.Listed.{named, listed}
use Rattle.book.specs.Viewed as book
use Rattle.rules.specs.Events.{entry_code, Kept}
use Rattle.rules.proofs.Events.{kept-answered}
use Rattle.reception.specs.Submission.{submitted}
use Rattle.reception.proofs.Listing.{listed_none}
use Rattle.refusals.specs.declared.Refusal.{Refusal}
use Rattle.refusals.specs.Conditions.{number_of}
use Rattle.outcomes.specs.declared.internal.Outcome.{Outcome}
use Rattle.outcomes.specs.declared.internal.Reply.{Reply}
use Rattle.outcomes.specs.Outcomes.{is_held}
use Rattle.outcomes.specs.Answers.{errors_in, reply_length, unless_confirmed, answer_of, Answers}

-- refused: the tender and the space as they were
pub answers-refused : (t : rules.Tender) (x : Reception) (f : Refusal) → some (number_of f) ≡ receiving_refused t x → Answers (receive t x) (Err f) t x.space
unfolding receive answer_unless
answers-refused t x f h = record { equal = ap (λ (l : Option ℕ). answer_unless l t x) h; errors_are = tt; length_is = tt; few = tt }

errors-told : (es : List Error) (n : ℕ) → es ≡ errors_in (answer_to es n)
unfolding answer_to
errors-told [] n = refl
errors-told (e ∷ es) n = refl

length-told : (es : List Error) (n : ℕ) → n ≡ reply_length (answer_to es n)
unfolding answer_to
length-told [] n = refl
length-told (e ∷ es) n = refl

unchanged-told : {A : Type 0} (es : List Error) (n : ℕ) (old new next : A) → (is_empty es ≡ true → next ≡ new) → (is_empty es ≡ false → next ≡ old) → next ≡ unless_confirmed (answer_to es n) old new
unfolding answer_to is_empty
unchanged-told [] n old new next k h = k refl
unchanged-told (e ∷ es) n old new next k h = h refl

some_listed : (codes : List ℕ) (n : ℕ) → is_empty (map named (take n codes)) ≡ false → 0 < n
unfolding is_empty
some_listed codes n h = go (ltb 0 n) refl
  where
    go : (b : Bool) → ltb 0 n ≡ b → 0 < n
    go true e = ltb-true 0 n e
    go false e = absurd (false≢true (sym h ∙ ap is_empty (listed_none codes n (ltb-false 0 n e))))

-- a message with errors is not held
pub not_held : (o : Outcome) → is_empty (listed o.errors) ≡ false → is_held o ≡ false
not_held o h = ne_eqb o.errors.n 0 (λ e. omega (arith, e, some_listed o.errors.codes o.errors.n h))

-- what a held message changes, and one with errors does not
pub answered_leaves : {A : Type 0} (r : Reply) (old new next : A) → (is_empty (listed r.errors) ≡ true → next ≡ new) → (is_empty (listed r.errors) ≡ false → next ≡ old) → next ≡ unless_confirmed (answer_of (Ok r)) old new
answered_leaves r old new next k h = unchanged-told (listed r.errors) r.length old new next k h

-- the codes of entries
codes-entries : (es : List Entry) → book.codes_in es ≡ map entry_code es
unfolding book.codes_in
codes-entries [] = refl
codes-entries (e ∷ es) = ap (λ (cs : List ℕ). e.code ∷ cs) (codes-entries es)

-- not refused: what the message left in the book, and its reply
module _ (t : rules.Tender) (x : Reception) (e : Errors) (n : ℕ) (next : List Entry) (after : List ℕ)
    (left : ◌≡◌ {A = List Error × List Entry} (listed e, next) (submitted t.terms t.book x)) where
  abbrev errors : List Error
  errors = returned_errors t.terms t.book x

  abbrev text : List Error → List ℕ
  text es = reply es t.terms.identifier x.message x.time

  abbrev found : listed e ≡ errors
  found = ap (λ (p : List Error × List Entry). p.0) left

  entries : next ≡ book_after errors t.terms t.book x
  entries = ap (λ (p : List Error × List Entry). p.1) left

  -- the codes stay, since the tender that the rules leave is kept too
  pub codes-left : Kept t → book.codes_in next ≡ t.terms.admission.codes
  unfolding answer_with
  codes-left g = ap book.codes_in entries ∙ codes-entries (book_after errors t.terms t.book x) ∙ (kept-answered t g errors x).entries

  pub kept-left : Kept t → Kept (record { terms = t.terms; state = t.state; book = next })
  unfolding answer_with
  kept-left g = subst Kept (λ i. record { terms = t.terms; state = t.state; book = sym entries i }) (kept-answered t g errors x)

  pub answers-left : receiving_refused t x ≡ none → e.n ≤ 16 → Wrote x.space 0 (text (listed e)) after n → Answers (receive t x) (Ok (record { errors = e; length = n })) (record { terms = t.terms; state = t.state; book = next }) after
  unfolding receive answer_unless answer_with overlay
  answers-left none_holds few wrote =
      let bytes : after ≡ in_space (text (listed e)) x.space = wrote.bytes ∙ ap (λ (k : ℕ). text (listed e) ++ drop k x.space) (zero-add (length (text (listed e)))) in
      let answer : answer_to (listed e) n ≡ answer_to errors (length (text errors)) = ap₂ answer_to found (wrote.past ∙ zero-add (length (text (listed e))) ∙ ap (λ (es : List Error). length (text es)) found) in
      record {
        equal =
            (λ i. (answer i, record { terms = t.terms; state = t.state; book = entries i }, (bytes ∙ ap (λ (es : List Error). in_space (text es) x.space) found) i))
            ∙ sym (ap (λ (l : Option ℕ). answer_unless l t x) none_holds);
        errors_are = errors-told (listed e) n;
        length_is = length-told (listed e) n;
        few = few;
      }
