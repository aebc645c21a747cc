-- Refusals in their order: the first conditions decide, or the rest do. Assumes nothing.
use mathlib.Core.Path.{◌≡◌, refl, sym, ap, ◌∙◌}
use mathlib.Core.Bool.{Bool, true, false, ◌&&◌, cond, false≢true}
use mathlib.Core.List.{List, [], ◌∷◌, ◌++◌}
use mathlib.Core.Option.{Option, none, some}
use Prim.Native.Nat.{ℕ}
use borrow.Author.Tests.{not-false}
use Rattle.calendar.specs.Calendar.{valid_date, valid_time}
use Rattle.envelope.specs.Refusals.{first_holding, unless_refused}
use Rattle.rules.specs.Calls.{is_revoked, is_over, clock_invalid}
use Rattle.rules.specs.Calls as rules
use Rattle.rules.proofs.Opening.{next_condition}
use Rattle.refusals.specs.declared.State.{State}
use Rattle.refusals.specs.Conditions.{state_of, is_some, not_open}

first_some : (xs ys : List (ℕ × Bool)) → is_some (first_holding xs) ≡ true → first_holding (xs ++ ys) ≡ first_holding xs
unfolding first_holding
first_some [] ys h = absurd (false≢true h)
first_some (x ∷ xs) ys h = go x.1 h (first_some xs ys)
  where
    go : (t : Bool) → is_some (cond t (some x.0) (first_holding xs)) ≡ true → (is_some (first_holding xs) ≡ true → first_holding (xs ++ ys) ≡ first_holding xs)
        → cond t (some x.0) (first_holding (xs ++ ys)) ≡ cond t (some x.0) (first_holding xs)
    go true g rest = refl
    go false g rest = rest g

first_none : (xs ys : List (ℕ × Bool)) → is_some (first_holding xs) ≡ false → first_holding (xs ++ ys) ≡ first_holding ys
unfolding first_holding
first_none [] ys h = refl
first_none (x ∷ xs) ys h = go x.1 h (first_none xs ys)
  where
    go : (t : Bool) → is_some (cond t (some x.0) (first_holding xs)) ≡ false → (is_some (first_holding xs) ≡ false → first_holding (xs ++ ys) ≡ first_holding ys)
        → cond t (some x.0) (first_holding (xs ++ ys)) ≡ first_holding ys
    go true g rest = absurd (false≢true (sym g))
    go false g rest = rest g

-- the first conditions refuse
pub refused-first : (xs ys : List (ℕ × Bool)) (l : Option ℕ) → l ≡ first_holding xs → is_some l ≡ true → first_holding (xs ++ ys) ≡ l
refused-first xs ys l e h = first_some xs ys (ap is_some (sym e) ∙ h) ∙ sym e

-- they do not: the others decide
pub refused-later : (xs ys : List (ℕ × Bool)) (l : Option ℕ) → l ≡ first_holding xs → is_some l ≡ false → first_holding (xs ++ ys) ≡ first_holding ys
refused-later xs ys l e h = first_none xs ys (ap is_some (sym e) ∙ h)

pub kept_old : {A : Type 0} (l : Option ℕ) (old new : A) → is_some l ≡ true → unless_refused l old new ≡ old
kept_old none old new h = absurd (false≢true h)
kept_old (some n) old new h = refl

pub none_of : (l : Option ℕ) → is_some l ≡ false → l ≡ none
none_of none h = refl
none_of (some n) h = absurd (false≢true (sym h))

-- conditions 8, 9 and 10 do not hold: the clock reading is valid
pub clock_valid : (s : rules.State) (date time : ℕ) (l : Option ℕ) → l ≡ not_open s date time → is_some l ≡ false → valid_date date && valid_time time ≡ true
unfolding clock_invalid
clock_valid s date time l e h =
    let eight = next_condition 8 (is_revoked s) _ (sym e ∙ none_of l h) in
    let nine = next_condition 9 (is_over s) _ eight.1 in
    not-false (valid_date date && valid_time time) (next_condition 10 (clock_invalid date time) _ nine.1).0

-- what a state decides, told by the state that was found
pub in_state_lem : (f : rules.State → Option ℕ) (s found : State) → s ≡ found → f (state_of found) ≡ f (state_of s)
in_state_lem f s found e = sym (ap (λ (x : State). f (state_of x)) e)
