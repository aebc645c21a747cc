-- The calls in place as the calls from C: words that hold no tender, and the numbers told. Assumes nothing.
use Rattle.std.specs.Prelude.{Result}
use Rattle.std.specs.Prelude as prelude
use mathlib.Core.Path.{◌≡◌, refl, sym, ap, ◌∙◌}
use mathlib.Core.Bool.{Bool, true, false, cond, false≢true}
use mathlib.Core.List.{List, [], ◌∷◌, ◌++◌, map}
use mathlib.Core.Option.{Option}
use Prim.Native.Nat.{ℕ, ◌-◌, ◌≤◌}
use native.Mathlib.Omega.{arith}
use lib.Dec.{leb}
use lib.ListN.{length, take, drop, set, replicate, length-map}
use lib.Seq.{length-take-le}
use Rattle.envelope.specs.Refusals.{unless_refused, or_zero}
use Rattle.output.specs.Output.{Wrote}
use Rattle.output.proofs.Output.{from_start}
use Rattle.places.specs.declared.Rate.{Rate}
use Rattle.rules.specs.Opening.{Admission, opening_refused, terms_of}
use Rattle.rules.specs.Receiving.{Error}
use Rattle.rules.specs.Calls as rules
use Rattle.rules.specs.Calls.{answer_to}
use Rattle.errors.specs.declared.Errors.{Errors}
use Rattle.errors.specs.Listed.{named, listed}
use Rattle.book.proofs.Empty.{zeros_after}
use Rattle.numbers.specs.Numbers.{in_array}
use Rattle.terms.specs.declared.OpenRefusal.{OpenRefusal}
use Rattle.terms.specs.Viewed.{open_refusal}
use Rattle.refusals.specs.declared.Refusal.{Refusal}
use Rattle.refusals.specs.Conditions.{refusal_number}
use Rattle.outcomes.specs.declared.internal.Reply.{Reply}
use Rattle.outcomes.specs.Answers.{answer_of, unless_confirmed}
use Rattle.buffer.specs.Words.{tender_words, tender_in, is_tender}
use Rattle.buffer_opening.specs.Opening.{held, opened_numbers, OpensIn}
use Rattle.buffer_opening.proofs.Opened.{zeros}
use Rattle.buffer_allotment.specs.Allotted.{allotted_in, PreviewsIn}
use Rattle.in_place.specs.InPlace.{accepted_in, holding_of, ReceivesIn, ChangesIn, AllotsIn}
use Rattle.optes_book.specs.Interface.{if_tender, answer_number, code_of, answer_numbers, told_of, awards_told, marginal_told, Opens, Receives, Changes, Allots, Previews}
use Rattle.optes_book.specs.Parts.{TellsAllotment}

module _ (ws : List ℕ) {A : Type 0} (told untold : A) where
  pub told_not : is_tender ws ≡ false → untold ≡ if_tender ws told untold
  told_not h = sym (ap (λ (b : Bool). cond b told untold) h)

  pub told-all : is_tender ws ≡ true → told ≡ if_tender ws told untold
  told-all h = sym (ap (λ (b : Bool). cond b told untold) h)

-- opening
module _ (ws m : List ℕ) (a : Admission) where
  abbrev opened : ℕ × List ℕ
  opened = (or_zero (opening_refused m a), unless_refused (opening_refused m a) ws (opened_numbers (held (terms_of m a)) a ++ drop tender_words ws))

  pub opens_short : leb tender_words (length ws) ≡ false → Opens ws m a 100 ws
  opens_short h =
      record {
        equal = sym (ap (λ (b : Bool). cond {A = ℕ × List ℕ} b opened (100, ws)) h);
        tender = λ q. absurd (false≢true (sym h ∙ q));
        given = λ q. absurd (false≢true (sym h ∙ q));
      }

  pub opens_in : leb tender_words (length ws) ≡ true → (answer : Result (Unit {0}) OpenRefusal) (r : ℕ) (after : List ℕ) → OpensIn ws m a answer after → r ≡ or_zero (open_refusal answer) → Opens ws m a r after
  opens_in h answer r after o e =
      record {
        equal = (λ i. ((e ∙ ap or_zero o.number) i, o.words i)) ∙ sym (ap (λ (b : Bool). cond {A = ℕ × List ℕ} b opened (100, ws)) h);
        tender = λ q. o.tender;
        given = λ q. o.given;
      }

-- closing and revoking
module _ (ws : List ℕ) (expected : Option ℕ × rules.Tender) (state : ℕ) where
  pub changes_not : is_tender ws ≡ false → Changes ws expected state 100 ws
  changes_not h =
      record {
        equal = told_not ws {A = ℕ × List ℕ} (or_zero expected.0, unless_refused expected.0 ws (set ws 1 state)) (100, ws) h;
        tender = λ q. absurd (false≢true (sym h ∙ q));
        given = λ q. absurd (false≢true (sym h ∙ q));
      }

  pub changes_in : is_tender ws ≡ true → (answer : Result (Unit {0}) Refusal) (r : ℕ) (after : List ℕ) → ChangesIn ws expected state answer after → r ≡ or_zero (refusal_number answer) → Changes ws expected state r after
  changes_in h answer r after c e =
      let number : refusal_number answer ≡ expected.0 = ap (λ (p : Option ℕ × rules.Tender). p.0) c.equal in
      record {
        equal =
            (λ i. ((e ∙ ap or_zero number) i, (c.numbers ∙ ap (λ (l : Option ℕ). unless_refused l ws (set ws 1 state)) number) i))
            ∙ told-all ws {A = ℕ × List ℕ} (or_zero expected.0, unless_refused expected.0 ws (set ws 1 state)) (100, ws) h;
        tender = λ q. ap (λ (p : Option ℕ × rules.Tender). p.1) c.equal;
        given = λ q. c.given;
      }

-- receiving
module _ (ws m : List ℕ) (date time : ℕ) (space told : List ℕ) where
  abbrev expected : rules.Answer × rules.Tender × List ℕ
  expected = rules.receive (tender_in ws) (record { message = m; date = date; time = time; space = space })

  abbrev all : rules.Answer × rules.Tender × List ℕ → ℕ × List ℕ × List ℕ × List ℕ
  all x = (answer_number x.0, unless_confirmed x.0 ws (holding_of ws (accepted_in ws m)), x.2, told_of x.0 told)

  pub receives_not : is_tender ws ≡ false → Receives ws m date time space told 100 ws space told
  receives_not h =
      record {
        equal = told_not ws (all expected) (100, ws, space, told) h;
        tender = λ q. absurd (false≢true (sym h ∙ q));
        given = λ q. absurd (false≢true (sym h ∙ q));
      }

  pub receives_in : is_tender ws ≡ true → (t : Result Reply Refusal) (after space₂ : List ℕ) → ReceivesIn ws m date time space t after space₂ → (r : ℕ) (told₂ : List ℕ)
      → r ≡ answer_number (answer_of t) → told₂ ≡ told_of (answer_of t) told → Receives ws m date time space told r after space₂ told₂
  receives_in h t after space₂ i r told₂ e f =
      let x = i.answers.equal in
      record {
        equal = (λ j. (e j, i.numbers j, space₂, f j)) ∙ ap all x ∙ told-all ws (all expected) (100, ws, space, told) h;
        tender = λ q. ap (λ (p : rules.Answer × rules.Tender × List ℕ). p.1) x;
        given = λ q. i.given;
      }

-- the number and the numbers of a reception that is not refused
pub zero_answered : (es : List Error) (n : ℕ) → 0 ≡ answer_number (answer_to es n)
unfolding answer_to
zero_answered [] n = refl
zero_answered (e ∷ es) n = refl

pub numbers-answered : (es : List Error) (n : ℕ) (told : List ℕ) → in_array (answer_numbers n es) told ≡ told_of (answer_to es n) told
unfolding answer_to
numbers-answered [] n told = refl
numbers-answered (e ∷ es) n told = refl

codes_back : (codes : List ℕ) → map code_of (map named codes) ≡ codes
unfolding named
codes_back [] = refl
codes_back (c ∷ codes) = ap (λ (l : List ℕ). c ∷ l) (codes_back codes)

-- the array of 18 zeros in which length, number and codes are written
pub answer-told : (e : Errors) (n : ℕ) {after : List ℕ} {end : ℕ} → e.n ≤ 16 → length e.codes ≡ 16 → Wrote (zeros 18) 0 ((n ∷ []) ++ (e.n ∷ []) ++ take e.n e.codes) after end → after ≡ answer_numbers n (listed e)
unfolding answer_numbers
answer-told e n few long w =
    let first : take e.n e.codes ≡ map code_of (listed e) = sym (codes_back (take e.n e.codes)) in
    let count : length (listed e) ≡ e.n = length-map (take e.n e.codes) named ∙ length-take-le e.n e.codes (omega (arith, few, long)) in
    let codes : length (map code_of (listed e)) ≡ e.n = length-map (listed e) code_of ∙ count in
    w.bytes
    ∙ from_start (zeros 18) ((n ∷ []) ++ (e.n ∷ []) ++ take e.n e.codes)
    ∙ ap (λ (l : List ℕ). n ∷ (e.n ∷ (l ++ drop (length l) (zeros 16)))) first
    ∙ ap (λ (k : ℕ). n ∷ (e.n ∷ (map code_of (listed e) ++ drop k (zeros 16)))) codes
    ∙ ap (λ (l : List ℕ). n ∷ (e.n ∷ (map code_of (listed e) ++ l))) (zeros_after e.n 16 few)
    ∙ ap (λ (k : ℕ). n ∷ (k ∷ (map code_of (listed e) ++ replicate (16 - k) 0))) (sym count)

-- allotting and previewing
module _ (ws awards told : List ℕ) where
  abbrev allotted : Option ℕ × rules.Tender × rules.Allotted → ℕ × List ℕ × List ℕ × List ℕ
  allotted x = (or_zero x.0, unless_refused x.0 ws (set ws 1 2), awards_told x.0 x.2 awards, marginal_told x.0 x.2 told)

  abbrev previewed : Option ℕ × rules.Tender × rules.Allotted → ℕ × List ℕ × List ℕ
  previewed x = (or_zero x.0, awards_told x.0 x.2 awards, marginal_told x.0 x.2 told)

  pub allots_not : is_tender ws ≡ false → Allots ws awards told 100 ws awards told
  allots_not h =
      record {
        equal = told_not ws (allotted (rules.allot (tender_in ws))) (100, ws, awards, told) h;
        tender = λ q. absurd (false≢true (sym h ∙ q));
        given = λ q. absurd (false≢true (sym h ∙ q));
      }

  pub previews_not : is_tender ws ≡ false → Previews ws awards told 100 awards told
  previews_not h = told_not ws (previewed (rules.preview (tender_in ws))) (100, awards, told) h

  module _ (h : is_tender ws ≡ true) (a : Result (prelude.Option Rate) Refusal) (cents : List ℕ) (r : ℕ) (awards₂ told₂ : List ℕ) (t : TellsAllotment (refusal_number a) (allotted_in a cents) awards told r awards₂ told₂) where
    pub allots_in : (after : List ℕ) → AllotsIn ws a after cents → Allots ws awards told r after awards₂ told₂
    allots_in after i =
        record {
          equal = (λ j. ((t j).0, i.numbers j, (t j).1, (t j).2)) ∙ ap allotted i.equal ∙ told-all ws (allotted (rules.allot (tender_in ws))) (100, ws, awards, told) h;
          tender = λ q. ap (λ (p : Option ℕ × rules.Tender × rules.Allotted). p.1) i.equal;
          given = λ q. i.given;
        }

    pub previews_in : PreviewsIn ws a cents → Previews ws awards told r awards₂ told₂
    previews_in i = t ∙ ap previewed i ∙ told-all ws (previewed (rules.preview (tender_in ws))) (100, awards, told) h
