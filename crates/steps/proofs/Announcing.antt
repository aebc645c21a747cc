-- An announcement, accepted or refused. Assumes nothing.
use Rattle.std.specs.Prelude.{Result, Ok, Err}
use mathlib.Core.Path.{◌≡◌, refl, sym, ap, subst, ◌∙◌}
use mathlib.Core.Bool.{true, false}
use mathlib.Core.List.{List, ◌∷◌, ◌++◌}
use mathlib.Core.Option.{Option, none, some}
use Prim.Native.Nat.{ℕ, zero, suc, ◌-◌, ◌≤◌}
use native.Mathlib.Nat.{sub-zero}
use native.Mathlib.Omega.{arith}
use lib.ListN.{length, take, drop, replicate}
use lib.Seq.{length-take-le}
use Rattle.output.specs.Output.{Wrote}
use Rattle.output.proofs.Output.{nothing, said}
use Rattle.envelope.specs.Refusals.{unless_refused, or_zero}
use Rattle.rules.specs.Opening.{Admission, admitting, uncapped, terms_of}
use Rattle.rules.specs.Calls.{Tender, open_tender}
use Rattle.terms.specs.declared.OpenRefusal.{OpenRefusal}
use Rattle.terms.specs.Viewed.{open_number, open_refusal}
use Rattle.buffer.specs.Words.{tender_words}
use Rattle.buffer_opening.specs.Opening.{held, opened_numbers, OpensIn}
use Rattle.log_rules.specs.Lines.{refused_line}
use Rattle.log_rules.specs.Steps.{opened_step, announcement_step}
use Rattle.steps.specs.declared.Standing.{Standing}
use Rattle.steps.specs.Viewed.{viewed, Given, Takes}
use Rattle.steps.proofs.Taking.{all-kept, takes_as, takes-nothing}

-- the first of equal elements
first-equal : {A : Type 0} (m n : ℕ) (x : A) → m ≤ n → take m (replicate n x) ≡ replicate m x
first-equal zero n x h = refl
first-equal (suc m) zero x h = absurd (omega arith)
first-equal {A} (suc m) (suc n) x h = ap (λ (l : List A). x ∷ l) (first-equal m n x (omega arith))

-- the parts of the codes and of the zeros that are lent are the first n codes, uncapped
lent_uncapped : (codes : List ℕ) (n : ℕ) → n ≤ 65 → length codes ≡ 65 → admitting (take (n - 0) codes) (take (n - 0) (replicate 65 0)) ≡ uncapped (take n codes)
lent_uncapped codes n few all =
    ap (λ (k : ℕ). admitting (take k codes) (take k (replicate 65 0))) (sub-zero n)
    ∙ ap (admitting (take n codes)) (first-equal n 65 0 few ∙ ap (λ (k : ℕ). replicate k 0) (sym (length-take-le n codes (omega (arith, few, all)))))

pub opens-uncapped : (words s codes : List ℕ) (n : ℕ) (a : Result (Unit {0}) OpenRefusal) (after : List ℕ) → n ≤ 65 → length codes ≡ 65
    → OpensIn words s (admitting (take (n - 0) codes) (take (n - 0) (replicate 65 0))) a after → OpensIn words s (uncapped (take n codes)) a after
opens-uncapped words s codes n a after few all o = subst (λ (x : Admission). OpensIn words s x a after) (lent_uncapped codes n few all) o

module _ (st : Standing) (codes words s space : List ℕ) (g : Given st words) (after : List ℕ) where
  abbrev opened : Option ℕ × Tender
  opened = open_tender s (uncapped (take st.n codes))

  -- the step of an opening, by the refusal that it answers with
  step_is : (a : Result (Unit {0}) OpenRefusal) → OpensIn words s (uncapped (take st.n codes)) a after → opened_step (viewed st codes words) (open_refusal a, opened.1) ≡ announcement_step (viewed st codes words) s
  unfolding announcement_step open_tender
  step_is a o = λ i. opened_step (viewed st codes words) (o.number i, opened.1)

  pub announced : OpensIn words s (uncapped (take st.n codes)) (Ok tt) after → Takes (announcement_step (viewed st codes words) s) space (record { standing = record { ended = false; opened = true; n = st.n }; length = 0 }) codes after space
  announced o =
      let none_there = sym o.number in
      takes_as (step_is (Ok tt) o)
      (record {
        state = λ i. record { ended = false; codes = (all-kept st codes words g i); tender = some (sym (o.tender none_there) i) };
        lines = nothing space 0;
        given = record { few = g.few; tender = λ e. o.given none_there };
      })

  -- refused, every word is as it was
  pub not_announced : (f : OpenRefusal) (left : List ℕ) (n : ℕ) → OpensIn words s (uncapped (take st.n codes)) (Err f) after → Wrote space 0 (refused_line (open_number f)) left n
      → Takes (announcement_step (viewed st codes words) s) space (record { standing = st; length = n }) codes after left
  not_announced f left n o w =
      let same : after ≡ words = o.words ∙ ap (λ (l : Option ℕ). unless_refused l words (opened_numbers (held (terms_of s (uncapped (take st.n codes)))) (uncapped (take st.n codes)) ++ drop tender_words words)) (sym o.number) in
      subst (λ (x : List ℕ). Takes (announcement_step (viewed st codes words) s) space (record { standing = st; length = n }) codes x left) (sym same)
      (takes_as (step_is (Err f) o) (takes-nothing st codes words space (refused_line (open_number f)) left n g w))
