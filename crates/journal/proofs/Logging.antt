-- The loop over fields: what holds of it, and that each turn keeps it. Assumes nothing.
use mathlib.Core.Path.{◌≡◌, refl, sym, ap, subst, ◌∙◌}
use mathlib.Core.Bool.{true, false}
use mathlib.Core.List.{List, ◌++◌}
use Prim.Native.Nat.{ℕ, ◌+◌, ◌-◌, ◌≤◌}
use native.Mathlib.Omega.{arith}
use lib.ListN.{length, take, drop, get_or, length-append, length-drop}
use lib.Seq.{length-take-le}
use Rattle.output.specs.Output.{Wrote}
use Rattle.output.proofs.Output.{from_start}
use Rattle.layout.specs.Fields.{length_at}
use Rattle.layout.proofs.Fields.{first_byte}
use Rattle.buffer.specs.Words.{tender_words}
use Rattle.log_rules.specs.Steps.{Log, step, tag_of, content_of, holds_field}
use Rattle.steps.specs.declared.Standing.{Standing}
use Rattle.steps.specs.declared.Taken.{Taken}
use Rattle.steps.specs.Viewed.{viewed, kept, Given, Takes}
use Rattle.journal.specs.Runs.{Runs}
use Rattle.journal.proofs.Running.{none_taken, leads_to, keeps, one-taken, and_then, content_at, after_at, rest_lent, rest_length, rest_back}

-- a text written from the start of a space that keeps its length fits into it
pub wrote-within : (d text after : List ℕ) (n : ℕ) → Wrote d 0 text after n → length after ≡ length d → n ≤ length d
wrote-within d text after n w e =
    let p = w.past in
    let l = ap length (w.bytes ∙ from_start d text) ∙ length-append text (drop (length text) d) in
    let k = length-drop (length text) d in
    omega (arith, p, l, k, e)

-- the field at an index, as the code reads it, leads to the log of what it leaves
pub field-taken : (s : List ℕ) (at n : ℕ) → n ≡ length_at (drop at s) → (l : Log) (space left codes words : List ℕ) (r : Taken) → holds_field (drop at s) ≡ true → l.ended ≡ false
    → Takes (step l (get_or s at 0) (take (at + 3 + n - (at + 3)) (drop (at + 3) s))) space r codes words left
    → Runs l (drop at s) space (viewed r.standing codes words) (drop (at + 3 + n) s) left r.length
field-taken s at n e l space left codes words r h unended d =
    subst (λ (y : List ℕ). Runs l (drop at s) space (viewed r.standing codes words) y left r.length) (sym (after_at s at n e))
    (leads_to (ap (λ (x : ℕ × List ℕ). kept (step l x.0 x.1).0) (sym read) ∙ d.state)
    (keeps (one-taken (none_taken l (drop at s) space) h unended (subst (λ (x : ℕ × List ℕ). Wrote space 0 (step l x.0 x.1).1 left r.length) read d.lines))))
  where
    read : ◌≡◌ {A = ℕ × List ℕ} (get_or s at 0, take (at + 3 + n - (at + 3)) (drop (at + 3) s)) (tag_of (drop at s), content_of (drop at s))
    read = λ i. (sym (first_byte s at) i, content_at s at n e i)

-- the fields up to an index are taken and their lines written
pub record Logging (input before : List ℕ) (first : Log) (space : List ℕ) (st : Standing) (codes words : List ℕ) (at n : ℕ) : Type 0 where
  pub runs : Runs first input before (viewed st codes words) (drop at input) space n
  pub given : Given st words
  pub within : at ≤ length input
  pub room : n ≤ length before
  pub same : length space ≡ length before
  pub codes-length : length codes ≡ 65
  pub words-length : length words ≡ tender_words

pub none_logged : (input space : List ℕ) (st : Standing) (codes words : List ℕ) → Given st words → length codes ≡ 65 → length words ≡ tender_words → Logging input space (viewed st codes words) space st codes words 0 0
none_logged input space st codes words g c w = record { runs = none_taken (viewed st codes words) input space; given = g; within = omega arith; room = omega arith; same = refl; codes-length = c; words-length = w }

-- a run more, over the rest of the space
module _ {input before : List ℕ} {first : Log} {space : List ℕ} {st : Standing} {codes words : List ℕ} {at n : ℕ} (t : Logging input before first space st codes words at n) where
  -- what is lent is all that follows the lines
  rest : length before - n ≡ length space - n
  rest = ap (λ (k : ℕ). k - n) (sym t.same)

  pub room-left : length (take (length before - n) (drop n space)) ≡ length before - n
  room-left = rest_length space n (length before - n) rest

  pub one_logged : (st₂ : Standing) (codes₂ words₂ : List ℕ) (next m : ℕ) (part : List ℕ)
      → Runs (viewed st codes words) (drop at input) (take (length before - n) (drop n space)) (viewed st₂ codes₂ words₂) (drop next input) part m
      → length part ≡ length (take (length before - n) (drop n space)) → next ≤ length input → Given st₂ words₂ → length codes₂ ≡ length codes → length words₂ ≡ length words
      → Logging input before first (take n space ++ (part ++ drop (length before - n) (drop n space))) st₂ codes₂ words₂ next (n + m)
  one_logged st₂ codes₂ words₂ next m part r e w given c d =
      let small = wrote-within (take (length before - n) (drop n space)) r.text part m r.wrote e in
      let o = t.room in
      let s = t.same in
      let l = room-left in
      let back = rest_back space n (length before - n) rest part in
      record {
        runs =
            subst (λ (x : List ℕ). Runs first input before (viewed st₂ codes₂ words₂) (drop next input) (take n space ++ x) (n + m)) (sym back)
            (and_then t.runs (subst (λ (x : List ℕ). Runs (viewed st codes words) (drop at input) x (viewed st₂ codes₂ words₂) (drop next input) part m) (rest_lent space n (length before - n) rest) r));
        given = given;
        within = w;
        room = omega (arith, small, l, o);
        same =
            ap (λ (x : List ℕ). length (take n space ++ x)) back
            ∙ length-append (take n space) part
            ∙ omega (arith, length-take-le n space (omega (arith, o, s)), e, l, o);
        codes-length = c ∙ t.codes-length;
        words-length = d ∙ t.words-length;
      }
