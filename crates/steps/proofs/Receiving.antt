-- What a reception comes to, as a line of the log and the tender after it. Assumes nothing.
use Rattle.std.specs.Prelude.{Result, Ok, Err}
use mathlib.Core.Path.{◌≡◌, refl, sym, ap, subst, ◌∙◌}
use mathlib.Core.List.{List}
use mathlib.Core.Option.{Option}
use Prim.Native.Nat.{ℕ, ◌-◌}
use native.Mathlib.Omega.{arith}
use lib.ListN.{length, take, drop, replicate, length-drop}
use lib.Seq.{take_all}
use Rattle.rules.specs.Receiving.{Reception, Error, Entry, returned_errors}
use Rattle.rules.specs.Calls as rules
use Rattle.rules.specs.Calls.{receiving_refused, reply, answer_to, answer_with, answer_unless, receive}
use Rattle.errors.specs.Listed.{listed}
use Rattle.checks.specs.Columns as checks
use Rattle.log_rules.specs.Lines.{refused_line}
use Rattle.log_rules.specs.Steps.{date_of, time_of, reception_in, answer_line, received}
use Rattle.outcomes.specs.declared.internal.Outcome.{Outcome}
use Rattle.refusals.specs.declared.Refusal.{Refusal}
use Rattle.refusals.specs.Conditions.{number_of, refusal_number}
use Rattle.outcomes.specs.Outcomes.{left_by, Left, ComesTo}

-- the reception of a field, with the message that follows its clock
pub reception_is : (s m : List ℕ) (date time : ℕ) → m ≡ drop 14 s → date ≡ date_of s → time ≡ time_of s → checks.reception_of m date time (replicate rules.reply_space 0) ≡ reception_in s
unfolding reception_in
reception_is s m date time p q h = λ i. record { message = p i; date = q i; time = h i; space = replicate rules.reply_space 0 }

pub message_is : (s : List ℕ) → take (length s - 14) (drop 14 s) ≡ drop 14 s
message_is s = take_all (length s - 14) (drop 14 s) (omega (arith, length-drop 14 s))

module _ (t : rules.Tender) (s m : List ℕ) (date time : ℕ) (p : m ≡ drop 14 s) (q : date ≡ date_of s) (h : time ≡ time_of s) where
  abbrev x : Reception
  x = reception_in s

  abbrev errors : List Error
  errors = returned_errors t.terms t.book x

  -- the length of the reply, which no line tells
  abbrev told : ℕ
  told = length (reply errors t.terms.identifier x.message x.time)

  number : (r : Result Outcome Refusal) → ComesTo t m date time rules.reply_space r → refusal_number r ≡ receiving_refused t x
  number r c = c.number (replicate rules.reply_space 0) refl ∙ ap (receiving_refused t) (reception_is s m date time p q h)

  -- refused: the line of the refusal, and the tender as it was
  module _ (f : Refusal) (c : ComesTo t m date time rules.reply_space (Err f)) where
    pub line-refused : refused_line (number_of f) ≡ (received s t).1
    unfolding receive answer_unless answer_line
    line-refused = ap (λ (l : Option ℕ). answer_line (answer_unless l t x).0 s) (number (Err f) c)

    pub left-refused : (received s t).0 ≡ t
    unfolding receive answer_unless
    left-refused = sym (ap (λ (l : Option ℕ). (answer_unless l t x).1) (number (Err f) c))

  -- not refused: the line of the errors, and what the reception leaves
  module _ (o : Outcome) (c : ComesTo t m date time rules.reply_space (Ok o)) where
    left : Left t x o
    left = subst (λ (y : Reception). Left t y o) (reception_is s m date time p q h) (c.left (replicate rules.reply_space 0))

    pub line_told : answer_line (answer_to (listed o.errors) told) s ≡ (received s t).1
    unfolding receive answer_unless answer_with
    line_told =
        ap (λ (es : List Error). answer_line (answer_to es told) s) (ap (λ (y : List Error × List Entry). y.0) left)
        ∙ ap (λ (l : Option ℕ). answer_line (answer_unless l t x).0 s) (number (Ok o) c)

    pub left-told : (received s t).0 ≡ left_by t o
    unfolding receive answer_unless answer_with
    left-told =
        sym (ap (λ (l : Option ℕ). (answer_unless l t x).1) (number (Ok o) c))
        ∙ (λ i. record { terms = t.terms; state = t.state; book = sym (ap (λ (y : List Error × List Entry). y.1) left) i })
