-- Laws of runs: nothing taken yet, one field more, and one run after another. Assumes nothing.
use mathlib.Core.Path.{◌≡◌, refl, sym, ap, subst, ◌∙◌}
use mathlib.Core.Bool.{true, false}
use mathlib.Core.List.{List, [], ◌++◌, append_assoc, append-nil}
use Prim.Native.Nat.{ℕ, ◌+◌, ◌-◌, ◌≤◌}
use native.Mathlib.Nat.{zero-add}
use native.Mathlib.Omega.{arith}
use lib.ListN.{length, take, drop, length-drop, drop_of_length-le}
use lib.Seq.{drop-drop, take_all}
use Rattle.output.specs.Output.{overlay, Wrote}
use Rattle.output.proofs.Output.{nothing, then, from_start}
use Rattle.layout.specs.Fields.{length_at}
use Rattle.log_rules.specs.Steps.{Log, step, tag_of, content_of, after_field, holds_field, log_from}
use Rattle.log_rules.proofs.Walks.{held-head, held_whole, field-first}
use Rattle.endings.proofs.Ending.{ends_log_lem}
use Rattle.endings.proofs.Left.{left-past}
use Rattle.steps.specs.Viewed.{kept}
use Rattle.journal.specs.Runs.{Runs}
use Rattle.journal.proofs.Kept.{log-kept}

-- nothing taken yet
pub none_taken : (l : Log) (s space : List ℕ) → Runs l s space l s space 0
none_taken l s space = record { text = []; wrote = nothing space 0; log = λ rest. refl; goes_on = λ h. (h, λ rest. refl) }

-- a run that leads to another log under another name, or to one that goes on alike
pub leads_to : {l k j : Log} {s space x after : List ℕ} {n : ℕ} → k ≡ j → Runs l s space k x after n → Runs l s space j x after n
leads_to {l} {k} {j} {s} {space} {x} {after} {n} e r = subst (λ (o : Log). Runs l s space o x after n) e r

pub keeps : {l k : Log} {s space x after : List ℕ} {n : ℕ} → Runs l s space k x after n → Runs l s space (kept k) x after n
keeps {k = k} {x = x} r = record { text = r.text; wrote = r.wrote; log = λ rest. r.log rest ∙ ap (λ (t : List ℕ). r.text ++ t) (log-kept k (x ++ rest)); goes_on = r.goes_on }

-- one field more
pub one-taken : {l k : Log} {s space x after next : List ℕ} {n m : ℕ}
    → Runs l s space k x after n → holds_field x ≡ true → k.ended ≡ false → Wrote after n (step k (tag_of x) (content_of x)).1 next m
    → Runs l s space (step k (tag_of x) (content_of x)).0 (after_field x) next m
one-taken {k = k} {x = x} r h e w =
    record {
      text = r.text ++ (step k (tag_of x) (content_of x)).1;
      wrote = then (omega arith) r.wrote w;
      log = λ rest.
          r.log rest
          ∙ ap (λ (t : List ℕ). r.text ++ t) (field-first x rest h k e)
          ∙ sym (append_assoc r.text (step k (tag_of x) (content_of x)).1 (log_from (step k (tag_of x) (content_of x)).0 (after_field x ++ rest)));
      goes_on = λ on.
          let before = r.goes_on e in
          (before.0, λ rest. before.1 rest ∙ left-past x rest h (sym (ends_log_lem k (tag_of x) (content_of x) e) ∙ on));
    }

-- all that follows an index, lent as a part of so many bytes and given back
module _ (d : List ℕ) (at w : ℕ) (e : w ≡ length d - at) where
  pub rest_lent : take w (drop at d) ≡ drop at d
  rest_lent = take_all w (drop at d) (omega (arith, length-drop at d, e))

  pub rest_length : length (take w (drop at d)) ≡ w
  rest_length = ap length rest_lent ∙ length-drop at d ∙ sym e

  pub rest_back : (part : List ℕ) → part ++ drop w (drop at d) ≡ part
  rest_back part = ap (λ (l : List ℕ). part ++ l) (drop_of_length-le (drop at d) {i = w} (omega (arith, length-drop at d, e))) ∙ append-nil part

-- a write at the start of what follows an index is one at the index
pub part-wrote : (d : List ℕ) (at m : ℕ) (text part : List ℕ) → Wrote (drop at d) 0 text part m → Wrote d at text (take at d ++ part) (at + m)
unfolding overlay
part-wrote d at m text part w =
    let e = zero-add (length text) in
    record {
      bytes =
          ap (λ (p : List ℕ). take at d ++ p) (w.bytes ∙ from_start (drop at d) text ∙ ap (λ (t : List ℕ). text ++ t) (drop-drop (length text) at d))
          ∙ sym (append_assoc (take at d) text (drop (at + length text) d));
      past = let p = w.past in omega (arith, p);
    }

-- a run after another, over the rest of the space
pub and_then : {l k j : Log} {s space x after y part : List ℕ} {n m : ℕ}
    → Runs l s space k x after n → Runs k x (drop n after) j y part m → Runs l s space j y (take n after ++ part) (n + m)
and_then {k = k} {j = j} {after = after} {y = y} {part = part} {n = n} {m = m} r q =
    record {
      text = r.text ++ q.text;
      wrote = then (omega arith) r.wrote (part-wrote after n m q.text part q.wrote);
      log = λ rest.
          r.log rest
          ∙ ap (λ (t : List ℕ). r.text ++ t) (q.log rest)
          ∙ sym (append_assoc r.text q.text (log_from j (y ++ rest)));
      goes_on = λ on.
          let later = q.goes_on on in
          let first = r.goes_on later.0 in
          (first.0, λ rest. first.1 rest ∙ later.1 rest);
    }

-- the field at an index, as the code reads it
module _ (s : List ℕ) (at n : ℕ) (e : n ≡ length_at (drop at s)) where
  pub content_at : take (at + 3 + n - (at + 3)) (drop (at + 3) s) ≡ content_of (drop at s)
  content_at =
      let q : at + 3 + n - (at + 3) ≡ n = omega arith in
      rw (q, drop-drop, e)

  pub after_at : drop (at + 3 + n) s ≡ after_field (drop at s)
  after_at =
      let q : at + 3 + n ≡ at + (3 + length_at (drop at s)) = omega (arith, e) in
      ap (λ (k : ℕ). drop k s) q ∙ sym (drop-drop (3 + length_at (drop at s)) at s)

  pub ends_at : holds_field (drop at s) ≡ true → at + 3 + n ≤ length s
  ends_at h =
      let w = held_whole (drop at s) h in
      let v = held-head (drop at s) h in
      let d = length-drop at s in
      omega arith
