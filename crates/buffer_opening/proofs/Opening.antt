-- What opening in words promises, refused or not. Assumes nothing.
use Rattle.std.specs.Prelude.{Ok, Err}
use mathlib.Core.Path.{◌≡◌, refl, sym, ap, ◌∙◌}
use mathlib.Core.Bool.{true, false≢true}
use mathlib.Core.List.{List, [], ◌∷◌, ◌++◌}
use mathlib.Core.Option.{Option, none, some}
use Prim.Native.Nat.{ℕ, ◌≤◌, ◌<◌}
use native.Mathlib.Omega.{arith}
use lib.ListN.{length, drop}
use lib.Seq.{drop_at}
use Rattle.output.specs.Output.{Wrote}
use Rattle.output.proofs.Output.{from_start}
use Rattle.envelope.specs.Refusals.{unless_refused}
use Rattle.rules.specs.Opening.{Admission, admitting, not_announcement, other_origin, malformed_announcement, unknown_type, impossible_numbers, dates_disordered, bad_codes, opening_refused, terms_of}
use Rattle.rules.specs.Receiving.{new_book}
use Rattle.rules.specs.Calls.{Open, no_tender, open_tender}
use Rattle.rules.proofs.Opening.{next_condition, few-codes, rising-codes, as_many_limits}
use Rattle.terms.specs.declared.Terms as declared
use Rattle.terms.specs.declared.OpenRefusal.{OpenRefusal}
use Rattle.terms.specs.Viewed as terms
use Rattle.terms.specs.Viewed.{open_number, OpensTerms}
use Rattle.book.specs.Viewed.{codes_in}
use Rattle.book.proofs.Joining.{new_codes}
use Rattle.buffer.specs.Words.{tender_words, state_in, tender_in, is_tender}
use Rattle.buffer_opening.specs.Opening.{Narrow, held, opened_numbers, OpensIn}
use Rattle.buffer_opening.proofs.Opened.{identifier_long, terms-read, entries-read, limits-read, is_tender_lem}

-- an accepted opening has a code
some_code : (m codes limits : List ℕ) → opening_refused m (admitting codes limits) ≡ none → 0 < length codes
unfolding opening_refused bad_codes
some_code m [] limits h =
    let c1 = next_condition 1 (not_announcement m) _ h in
    let c2 = next_condition 2 (other_origin m) _ c1.1 in
    let c3 = next_condition 3 (malformed_announcement m) _ c2.1 in
    let c4 = next_condition 4 (unknown_type m) _ c3.1 in
    let c5 = next_condition 5 (impossible_numbers m) _ c4.1 in
    let c6 = next_condition 6 (dates_disordered m) _ c5.1 in
    absurd (false≢true (sym (next_condition 7 true _ c6.1).0))
some_code m (c ∷ codes) limits h = omega arith

module _ (m : List ℕ) (admission : Admission) where
  -- refused, nothing is written
  pub opens-nothing : (ws : List ℕ) (f : OpenRefusal) → some (open_number f) ≡ opening_refused m admission → OpensIn ws m admission (Err f) ws
  opens-nothing ws f number =
      let never : opening_refused m admission ≡ none → ⊥ = λ x. cc in
      record {
        number = number;
        words = ap (λ (o : Option ℕ). unless_refused o ws (opened_numbers (held (terms_of m admission)) admission ++ drop tender_words ws)) number;
        past = refl;
        tender = λ x. absurd (never x);
        given = λ x. absurd (never x);
      }

  module _ (t : declared.Terms) (e : OpensTerms m admission (Ok t)) where
    abbrev codes : List ℕ
    codes = admission.codes

    none_holds : opening_refused m admission ≡ none
    none_holds = sym e.number

    pub few : length codes ≤ 64
    few = few-codes m admission none_holds

    counted : length admission.limits ≡ length codes
    counted = as_many_limits m admission none_holds

    pub few-limits : length admission.limits ≤ 64
    few-limits = omega (arith, few, counted)

    module _ (ws after : List ℕ) (end : ℕ) (narrow : Narrow t) (w : Wrote ws 0 (opened_numbers t admission) after end) (at_end : end ≡ tender_words) where
      opened_long_enough : length (opened_numbers t admission) ≡ tender_words
      opened_long_enough = omega (arith, w.past, at_end)

      long : length t.identifier ≡ 11
      long = identifier_long t admission few few-limits opened_long_enough

      after_is : after ≡ opened_numbers t admission ++ drop tender_words ws
      after_is = w.bytes ∙ from_start ws (opened_numbers t admission) ∙ ap (λ (n : ℕ). opened_numbers t admission ++ drop n ws) opened_long_enough

      tender_is : tender_in (opened_numbers t admission ++ drop tender_words ws) ≡ record { terms = terms_of m admission; state = Open; book = new_book codes }
      unfolding opened_numbers state_in
      tender_is =
          let rest = drop tender_words ws in
          let terms-same = terms-read t narrow long admission rest few counted in
          let entries = entries-read t narrow long admission rest few counted in
          let admitted = ap codes_in entries ∙ new_codes codes in
          let capped = limits-read t narrow long admission rest few counted in
          λ i. record { terms = ((λ j. terms.viewed (terms-same j) (admitting (admitted j) (capped j))) ∙ e.terms) i; state = Open; book = entries i }

      pub opens : OpensIn ws m admission (Ok tt) after
      unfolding open_tender
      opens =
          let rest = drop tender_words ws in
          let same : t ≡ held (terms_of m admission) = ap held e.terms in
          record {
            number = e.number;
            words = after_is ∙ ap (λ (x : declared.Terms). opened_numbers x admission ++ rest) same ∙ sym (ap (λ (o : Option ℕ). unless_refused o ws (opened_numbers (held (terms_of m admission)) admission ++ rest)) none_holds);
            past = ap (drop tender_words) after_is ∙ drop_at (opened_numbers t admission) rest tender_words opened_long_enough;
            tender = λ _. ap tender_in after_is ∙ tender_is ∙ sym (ap (λ (o : Option ℕ). unless_refused o no_tender (record { terms = terms_of m admission; state = Open; book = new_book codes })) none_holds);
            given = λ _. ap is_tender after_is ∙ is_tender_lem t narrow long admission rest few counted (some_code m codes admission.limits none_holds) (rising-codes m admission none_holds);
          }
