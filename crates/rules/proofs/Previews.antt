-- A preview is refused where allotting the closed tender is, and then gives the same; after receptions that is what the final bids give. Assumes nothing.
use mathlib.Core.Path.{◌≡◌, refl, sym, ap, ◌∙◌}
use mathlib.Core.Bool.{Bool, true, false, cond, ◌&&◌, ◌||◌, false≢true}
use mathlib.Core.List.{List, [], ◌∷◌}
use mathlib.Core.Option.{Option, none}
use Prim.Native.Nat.{ℕ, ◌/◌, ◌%◌, ◌≤◌}
use native.Mathlib.Omega.{arith}
use lib.Dec.{eqb, leb}
use borrow.Author.Tests.{leb-true, le-ltb, not-false}
use Rattle.laws.proofs.Tests.{and_left, and_right}
use Rattle.calendar.specs.Calendar.{year, month, day, leap_year, days_in, valid_date, valid_time}
use Rattle.envelope.specs.Refusals.{first_holding, unless_refused}
use Rattle.rules.specs.Allotment.{Bid, sum}
use Rattle.rules.specs.Opening.{Admission, opening_refused, terms_of}
use Rattle.rules.specs.Receiving.{Reception}
use Rattle.rules.specs.Calls.{State, Open, Closed, Announced, Revoked, Tender, in_state, is_revoked, is_over, clock_invalid, is_open, is_announced, bids_in_book, bids_exceed, closing_refused, close, allotting_refused, Allotted, not_allotted, allotment, allot, preview_refused, preview}
use Rattle.rules.specs.ArrivalOrder.{EnoughSpace, after_receptions, final_book}
use Rattle.rules.specs.Previews.{answered, PreviewForetells, PreviewOfOpen, NoClockAfterTheLast, PreviewOfNotOpen, PreviewKeepsTender, PreviewOfReceptions, PreviewInAnyOrder}
use Rattle.rules.proofs.Opening.{next_condition}
use Rattle.rules.proofs.Links.{allotment-sum}
use Rattle.rules.proofs.Rearranging.{rearranged_mem, rearranged_back}
use Rattle.rules.proofs.Events.{open_not_exceeding}
use Rattle.rules.proofs.ArrivalOrder.{allotting-accepted, after_is, bids_are, same_final}

-- what a call answers that is refused with this number, or not
abbrev answer : Tender → Option ℕ → Option ℕ × Allotted
answer t l = (l, unless_refused l not_allotted (allotment t.terms (bids_in_book t.book)))

preview-answers : (t : Tender) → answered (preview t) ≡ answer t (preview_refused t)
unfolding preview
preview-answers t = refl

allot-answers : (t : Tender) → answered (allot t) ≡ answer t (allotting_refused t)
unfolding allot
allot-answers t = refl

-- a tender that closing does not refuse is open
closable_open : (s : State) → is_revoked s ≡ false → is_over s ≡ false → is_open s ≡ true
unfolding is_revoked is_over is_open
closable_open Open r o = refl
closable_open Closed r o = absurd (false≢true (sym o))
closable_open Announced r o = absurd (false≢true (sym o))
closable_open Revoked r o = absurd (false≢true (sym r))

closing_finds_open : (t : Tender) (date time : ℕ) → closing_refused t date time ≡ none → is_open t.state ≡ true
unfolding closing_refused
closing_finds_open t date time h =
    let eight = next_condition 8 (is_revoked t.state) _ h in
    closable_open t.state eight.0 (next_condition 9 (is_over t.state) _ eight.1).0

-- the conditions of the preview of an open tender are those of allotting it closed
open_refusal_lem : (t : Tender) (s : State) → is_open s ≡ true → preview_refused (in_state s t) ≡ allotting_refused (in_state Closed t)
unfolding preview_refused allotting_refused bids_exceed is_revoked is_open is_announced first_holding
open_refusal_lem t Open h = refl
open_refusal_lem t Closed h = absurd (false≢true h)
open_refusal_lem t Announced h = absurd (false≢true h)
open_refusal_lem t Revoked h = absurd (false≢true h)

pub preview_of_open : PreviewOfOpen
preview_of_open t h = preview-answers t ∙ ap (answer t) (open_refusal_lem t t.state h) ∙ sym (allot-answers (in_state Closed t))

closed-tender : (t : Tender) (date time : ℕ) → closing_refused t date time ≡ none → (close t date time).1 ≡ in_state Closed t
unfolding close
closed-tender t date time h = ap (λ (l : Option ℕ). unless_refused l t (in_state Closed t)) h

pub preview_foretells : PreviewForetells
preview_foretells t date time h =
    preview_of_open t (closing_finds_open t date time h) ∙ sym (ap (λ (u : Tender). answered (allot u)) (closed-tender t date time h))

-- of the last date year, month and day are the greatest, and of its last second the time
days_few : (m y : ℕ) → days_in m y ≤ 31
unfolding days_in
days_few m y = go (eqb m 2) (leap_year y) (eqb m 4 || eqb m 6 || eqb m 9 || eqb m 11)
  where
    go : (a b c : Bool) → cond a (cond b 29 28) (cond c 30 31) ≤ 31
    go true true c = omega arith
    go true false c = omega arith
    go false b true = omega arith
    go false b false = omega arith

date-within : (date : ℕ) → valid_date date ≡ true → (month date ≤ 12) × (day date ≤ 31)
date-within date v =
    let from_1 = leb 1900 (year date) && leb 1 (month date) in
    let to_12 = leb (month date) 12 in
    let last = leb (day date) (days_in (month date) (year date)) in
    let w = and_left (from_1 && to_12 && leb 1 (day date)) last v in
    let d = leb-true (day date) (days_in (month date) (year date)) (and_right (from_1 && to_12 && leb 1 (day date)) last v) in
    let e = days_few (month date) (year date) in
    (leb-true (month date) 12 (and_right from_1 to_12 (and_left (from_1 && to_12) (leb 1 (day date)) w)), omega (arith, d, e))

time-within : (time : ℕ) → valid_time time ≡ true → time ≤ 235959
time-within time v =
    let hours = leb (time / 10000) 23 in
    let minutes = leb (time / 100 % 100) 59 in
    let seconds = leb (time % 100) 59 in
    let w = and_left (hours && minutes) seconds v in
    let h = leb-true (time / 10000) 23 (and_left hours minutes w) in
    let m = leb-true (time / 100 % 100) 59 (and_right hours minutes w) in
    let s = leb-true (time % 100) 59 (and_right (hours && minutes) seconds v) in
    omega (arith, h, m, s)

pub no_clock_after_the_last : NoClockAfterTheLast
unfolding clock_invalid
no_clock_after_the_last date time h =
    let v = not-false (valid_date date && valid_time time) h in
    let d = date-within date (and_left (valid_date date) (valid_time time) v) in
    let t = le-ltb 235959 time (time-within time (and_right (valid_date date) (valid_time time) v)) in
    let y = le-ltb 9999 (year date) (omega arith) in
    rw (y, le-ltb 12 (month date) d.0, le-ltb 31 (day date) d.1, t) (go (eqb 9999 (year date)) (eqb 12 (month date)) (eqb date 31129999))
  where
    go : (x y z : Bool) → (x && (y && false)) || (z && false) ≡ false
    go true true true = refl
    go true true false = refl
    go true false true = refl
    go true false false = refl
    go false y true = refl
    go false y false = refl

-- condition 14 left out
without_open : (t : Tender) → is_open t.state ≡ false → preview_refused t ≡ allotting_refused t
unfolding preview_refused allotting_refused first_holding
without_open t h = rw h

pub preview_of_not_open : PreviewOfNotOpen
preview_of_not_open t h = preview-answers t ∙ ap (answer t) (without_open t h) ∙ sym (allot-answers t)

pub preview_keeps_tender : PreviewKeepsTender
unfolding preview
preview_keeps_tender t = refl

-- after receptions the tender is open, and its bids never exceed condition 16
open_after : (t : Tender) → t.state ≡ Open → bids_exceed t ≡ false → preview_refused t ≡ none
unfolding is_open bids_exceed
open_after t o h = open_refusal_lem t t.state (ap is_open o) ∙ allotting-accepted t h

pub preview_of_receptions : PreviewOfReceptions
preview_of_receptions m a h rs room =
    let t = after_receptions m a rs in
    let is = after_is m a h rs room in
    preview-answers t
    ∙ ap (answer t) (open_after t (ap (λ (u : Tender). u.state) is) (open_not_exceeding m a rs))
    ∙ ap (λ (u : Tender). (none, allotment u.terms (bids_in_book u.book))) is
    ∙ ap (λ (bs : List Bid). (none, allotment (terms_of m a) bs)) (bids_are m a h rs room)

pub preview_in_any_order : PreviewInAnyOrder
preview_in_any_order m a h rs rearranged room agree p =
    let t = terms_of m a in
    let x = preview_of_receptions m a h rs room in
    let y = preview_of_receptions m a h rearranged (λ r k. room r (rearranged_mem (rearranged_back p) k)) in (
      y ∙ ap (λ (bs : List Bid). (none, allotment t bs)) (sym (same_final t rs agree rearranged p)) ∙ sym x,
      ap (λ (z : Option ℕ × Allotted). sum z.1.awards) x ∙ allotment-sum t (final_book t rs),
    )
