-- What opening gives: the tender of the announcement, or an empty one that is revoked. Assumes nothing.
use Rattle.std.specs.Prelude.{Ok, Err}
use mathlib.Core.Path.{◌≡◌, refl, sym, ap, subst, ◌∙◌}
use mathlib.Core.List.{List, []}
use mathlib.Core.Option.{Option, none, some}
use Prim.Native.Nat.{ℕ}
use native.Mathlib.Omega.{arith}
use lib.ListN.{length, take}
use Rattle.envelope.specs.Refusals.{unless_refused}
use Rattle.rules.specs.Opening.{Admission, admitting, nobody, opening_refused, terms_of, no_terms}
use Rattle.rules.specs.Receiving.{new_book}
use Rattle.rules.specs.Calls.{Open, Revoked, Tender, no_tender, open_tender}
use Rattle.rules.specs.Events.{Kept}
use Rattle.rules.proofs.Opening.{few-codes, as_many_limits}
use Rattle.rules.proofs.Events.{kept-opened}
use Rattle.terms.specs.declared.Terms as declared
use Rattle.terms.specs.declared.OpenRefusal.{OpenRefusal}
use Rattle.terms.specs.Viewed as terms
use Rattle.terms.specs.Viewed.{open_number, open_refusal, OpensTerms}
use Rattle.book.specs.declared.Book.{Book}
use Rattle.book.specs.Viewed as book
use Rattle.book.proofs.Empty.{new_whole, limits-whole}
use Rattle.book.proofs.Joining.{new_codes}
use Rattle.refusals.specs.declared.State.TheVariants as state
use Rattle.tender.specs.declared.Opened.{Opened}
use Rattle.tender.specs.Viewed.{viewed}
use Rattle.tender.specs.Calls.{Opens}

-- what all calls keep is carried over the equation
opens_by : (m : List ℕ) (admission : Admission) (r : Opened) → (open_refusal r.answer, viewed r.tender) ≡ open_tender m admission → Opens m admission r
opens_by m admission r e = record { equal = e; given = subst Kept (sym (ap (λ (x : Option ℕ × Tender). x.1) e)) (kept-opened m admission) }

module _ (m : List ℕ) (admission : Admission) where
  -- no condition holds, and the terms are those of the announcement
  module _ (t : declared.Terms) (e : OpensTerms m admission (Ok t)) (b : Book) (k : book.viewed b ≡ new_book (take 64 admission.codes))
      (l : book.limits_in b ≡ take (book.up_to64 (length admission.codes)) (book.first64 admission.limits)) where
    none_holds : opening_refused m admission ≡ none
    none_holds = sym e.number

    entries : book.viewed b ≡ new_book admission.codes
    entries = k ∙ new_whole admission.codes (few-codes m admission none_holds)

    admitted : book.codes_in (book.viewed b) ≡ admission.codes
    admitted = ap book.codes_in entries ∙ new_codes admission.codes

    limited : book.limits_in b ≡ admission.limits
    limited = l ∙ limits-whole admission.limits (length admission.codes) (as_many_limits m admission none_holds) (few-codes m admission none_holds)

    pub opens : Opens m admission (record { answer = Ok tt; tender = record { state = state.Open; terms = t; book = b } })
    unfolding open_tender
    opens =
        opens_by m admission (record { answer = Ok tt; tender = record { state = state.Open; terms = t; book = b } })
        ((λ i. (e.number i, record { terms = ((λ j. terms.viewed t (admitting (admitted j) (limited j))) ∙ e.terms) i; state = Open; book = entries i }))
        ∙ sym (ap (λ (l : Option ℕ). (opening_refused m admission, unless_refused l no_tender (record { terms = terms_of m admission; state = Open; book = new_book admission.codes }))) none_holds))

  module _ (f : OpenRefusal) (holds : some (open_number f) ≡ opening_refused m admission) (t : declared.Terms) (none_told : terms.viewed t nobody ≡ no_terms)
      (b : Book) (k : book.viewed b ≡ new_book (take 64 [])) (l : book.limits_in b ≡ take (book.up_to64 0) (book.first64 [])) where
    no_entries : book.viewed b ≡ []
    unfolding new_book
    no_entries = k

    no_codes : book.codes_in (book.viewed b) ≡ []
    unfolding book.codes_in
    no_codes = ap book.codes_in no_entries

    no_limits : book.limits_in b ≡ []
    no_limits = l ∙ limits-whole [] 0 refl (omega arith)

    pub opens-nothing : Opens m admission (record { answer = Err f; tender = record { state = state.Revoked; terms = t; book = b } })
    unfolding open_tender
    opens-nothing =
        let terms_none : terms.viewed t (book.admission_of b) ≡ no_terms = (λ j. terms.viewed t (admitting (no_codes j) (no_limits j))) ∙ none_told in
        opens_by m admission (record { answer = Err f; tender = record { state = state.Revoked; terms = t; book = b } })
        ((λ i. (holds i, record { terms = terms_none i; state = Revoked; book = no_entries i }))
        ∙ ap (λ (l : Option ℕ). (opening_refused m admission, unless_refused l no_tender (record { terms = terms_of m admission; state = Open; book = new_book admission.codes }))) holds)
