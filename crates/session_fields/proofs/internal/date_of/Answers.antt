-- `session_fields::internal::date_of` meets its contract. Assumes nothing.
use mathlib.Core.Path.{sym, ap, ◌∙◌}
use mathlib.Core.List.{List}
use Prim.Native.Nat.{ℕ}
use Rattle.digits.specs.Decimal.{is_number, digits_of, number_in}
use Rattle.session_fields.proofs.Clock.{time-bytes, date-told, no_date}
use Rattle.session_fields.proofs.internal.date_of.Goals as goal

pub returns-then-is_some : goal.returns-then-is_some
returns-then-is_some c =
    let l = c in
    let s = c.args.s.now in
    let there = ap (λ (x : List ℕ). is_number (digits_of x)) (sym (time-bytes s)) ∙ ap is_number (sym l.last_of_eight.ensures) ∙ sym c.is_some.ensures ∙ c.if-is_some.true in
    c.unwrap_or.ensures ∙ ap number_in c.eight.ensures ∙ date-told s there

pub returns : goal.returns
returns c =
    let s = c.args.s.now in
    no_date s (ap (λ (x : List ℕ). is_number (digits_of x)) (sym (time-bytes s)) ∙ ap is_number (sym c.last_of_eight.ensures) ∙ sym c.is_some.ensures ∙ c.if-is_some.false)
