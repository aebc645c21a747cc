-- What taking a field promises, in the cases of the code: it ends the log, is skipped, or calls the tender. Assumes nothing.
use Rattle.std.specs.Prelude.{Result}
use mathlib.Core.Path.{◌≡◌, refl, sym, ap, subst, ◌∙◌}
use mathlib.Core.Bool.{Bool, true, false, cond}
use mathlib.Core.List.{List, []}
use mathlib.Core.Option.{Option, none, some}
use Prim.Native.Nat.{ℕ}
use native.Mathlib.Omega.{arith}
use lib.Dec.{eqb}
use lib.ListN.{length, take, length-take}
use lib.Seq.{take_all}
use borrow.Author.Tests.{eq-eqb, ne_eqb}
use Rattle.output.specs.Output.{Wrote}
use Rattle.output.proofs.Output.{nothing, said}
use Rattle.rules.specs.Calls.{Tender}
use Rattle.buffer.specs.Words.{tender_in}
use Rattle.log_rules.specs.Steps.{Log, Step, ending, on_tender, refusal, admission_step, announcement_step, reception_step, closing_step, revocation_step, allotting_step, step}
use Rattle.refusals.specs.declared.Refusal.{Refusal}
use Rattle.refusals.specs.Conditions.{refusal_number}
use Rattle.in_place.specs.InPlace.{ChangesIn}
use Rattle.steps.specs.declared.Standing.{Standing}
use Rattle.steps.specs.declared.Taken.{Taken}
use Rattle.steps.specs.Viewed.{viewed, Given, Ready, Takes, Calls, ended_at}

-- the codes that a journal keeps are at most 65
pub all-kept : (st : Standing) (codes words : List ℕ) → Given st words → take 65 (take st.n codes) ≡ take st.n codes
all-kept st codes words g = take_all 65 (take st.n codes) (let f = g.few in simp length-take (omega (arith, f)))

-- a field that calls the tender if it has so many bytes, and ends the log if not
abbrev call_of : ℕ → (Tender → Tender × List ℕ) → Log → List ℕ → Step
call_of k call l s = cond (eqb (length s) k) (on_tender l call) (ending l)

pub other_length : (k : ℕ) (call : Tender → Tender × List ℕ) (l : Log) (s : List ℕ) → (length s ≡ k → ⊥) → ending l ≡ call_of k call l s
other_length k call l s h = sym (rw (ne_eqb (length s) k h) refl)

pub its_length : (k : ℕ) (call : Tender → Tender × List ℕ) (l : Log) (s : List ℕ) → length s ≡ k → on_tender l call ≡ call_of k call l s
its_length k call l s h = sym (rw (eq-eqb (length s) k h) refl)

-- the same step under another name
pub takes_as : {expected other : Step} {space codes words left : List ℕ} {r : Taken} → expected ≡ other → Takes expected space r codes words left → Takes other space r codes words left
takes_as {space = space} {codes = codes} {words = words} {left = left} {r = r} e t = subst (λ (x : Step). Takes x space r codes words left) e t

-- a field of a log that has not ended, by its tag
abbrev by_tag : Log → ℕ → List ℕ → Step
by_tag l tag s =
    cond (eqb tag 0xA0) (admission_step l s)
    (cond (eqb tag 0xA1) (announcement_step l s)
    (cond (eqb tag 0xA2) (reception_step l s)
    (cond (eqb tag 0xA3) (closing_step l s)
    (cond (eqb tag 0xA4) (revocation_step l s)
    (cond (eqb tag 0xA5) (allotting_step l s)
    (ending l))))))

pub stepped : (l : Log) (tag : ℕ) (s : List ℕ) → l.ended ≡ false → (expected : Step) → by_tag l tag s ≡ expected → expected ≡ step l tag s
unfolding step
stepped l tag s e expected h = sym (ap (λ (b : Bool). cond b (l, []) (by_tag l tag s)) e ∙ h)

-- the log with so many codes, ended or not, and with a tender or not
abbrev log_of : List ℕ → Bool → Option Tender → Log
log_of codes ended tender = record { ended = ended; codes = codes; tender = tender }

-- the tender by whether there is one
abbrev there : List ℕ → Bool → Option Tender
there words b = cond b (some (tender_in words)) none

module _ (st : Standing) (codes words space : List ℕ) where
  pub takes-ended : (r : Taken) → r ≡ ended_at st → Given st words → Takes (ending (viewed st codes words)) space r codes words space
  takes-ended r e g =
      subst (λ (x : Taken). Takes (ending (viewed st codes words)) space x codes words space) (sym e)
      (record {
        state = λ i. log_of (all-kept st codes words g i) true (there words st.opened);
        lines = nothing space 0;
        given = record { few = g.few; tender = g.tender };
      })

  pub takes-nothing : (text left : List ℕ) (n : ℕ) → Given st words → Wrote space 0 text left n → Takes (viewed st codes words, text) space (record { standing = st; length = n }) codes words left
  takes-nothing text left n g w =
      record {
        state = λ i. log_of (all-kept st codes words g i) st.ended (there words st.opened);
        lines = w;
        given = g;
      }

  -- before an accepted A1 a call is skipped
  pub takes_skipped : (call : Tender → Tender × List ℕ) → Given st words → st.opened ≡ false → Takes (on_tender (viewed st codes words) call) space (record { standing = st; length = 0 }) codes words space
  takes_skipped call g h =
      let l = take st.n codes in
      let skipped : (viewed st codes words, []) ≡ on_tender (viewed st codes words) call =
      subst (λ (b : Bool). (log_of l st.ended (there words b), []) ≡ on_tender (log_of l st.ended (there words b)) call) (sym h) refl in
      takes_as skipped (takes-nothing [] space 0 g (nothing space 0))

  -- after it the call gives the next tender and the lines
  pub takes_called : (call : Tender → Tender × List ℕ) (after left : List ℕ) (n : ℕ) → Ready st words → st.opened ≡ true → Calls call words space after n left
      → Takes (on_tender (viewed st codes words) call) space (record { standing = st; length = n }) codes after left
  takes_called call after left n r h c =
      let l = take st.n codes in
      let called : (log_of l false (some (call (tender_in words)).0), (call (tender_in words)).1) ≡ on_tender (viewed st codes words) call = sym (ap (λ (b : Bool). on_tender (log_of l st.ended (there words b)) call) h) in
      takes_as called
      (record {
        state =
            (λ i. log_of (all-kept st codes words r.given i) false (some (c.tender_is i)))
            ∙ (λ i. log_of l (sym r.unended i) (sym (ap (there after) h) i));
        lines = c.lines;
        given = record { few = r.given.few; tender = λ e. c.given };
      })

-- a call that is refused, or puts the tender into a state
pub called_by : (call : Tender → Option ℕ × Tender) (words after space left : List ℕ) (n : ℕ) (r : Result (Unit {0}) Refusal) (w : ℕ) → ChangesIn words (call (tender_in words)) w r after → Wrote space 0 (refusal (refusal_number r)) left n
    → Calls (λ (t : Tender). ((call t).1, refusal (call t).0)) words space after n left
called_by call words after space left n r w c wrote =
    record {
      tender_is = sym (ap (λ (p : Option ℕ × Tender). p.1) c.equal);
      lines = said (ap (λ (p : Option ℕ × Tender). refusal p.0) c.equal) wrote;
      given = c.given;
    }
