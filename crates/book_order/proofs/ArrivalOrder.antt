-- Demand 3 of the calls from C: the theorem of the rules, carried over the contracts. Assumes nothing.
use mathlib.Core.Path.{◌≡◌, refl, sym, ap, ap₂, subst, ◌∙◌}
use mathlib.Core.Bool.{Bool, true, false, cond, false≢true}
use mathlib.Core.List.{List, [], ◌∷◌}
use mathlib.Core.Option.{Option, none}
use Prim.Native.Nat.{ℕ, zero, suc}
use native.Mathlib.Omega.{arith}
use lib.Dec.{leb}
use lib.ListN.{length}
use Rattle.envelope.specs.Refusals.{first_holding, or_zero}
use Rattle.rules.specs.Allotment.{sum}
use Rattle.rules.specs.Opening.{Admission, not_announcement, other_origin, malformed_announcement, unknown_type, impossible_numbers, dates_disordered, bad_codes, limits_miscounted, limit_too_long, opening_refused}
use Rattle.rules.specs.Receiving.{Reception}
use Rattle.rules.specs.Calls as rules
use Rattle.rules.specs.ArrivalOrder.{receive_all, after_receptions, after_closing}
use Rattle.rules.proofs.ArrivalOrder.{arrival_order}
use Rattle.numbers.specs.Numbers.{in_array}
use Rattle.buffer.specs.Words.{tender_words, tender_in, is_tender}
use Rattle.optes_book.specs.Interface.{marginal_numbers, awards_told, marginal_told, Opens}
use Rattle.optes_book.proofs.Calls.{told-all}
use Rattle.book_order.specs.ArrivalOrder.{ReceivesAll, no_more, and_next, Run, final_allotment, ArrivalOrderFromC}

-- no condition has the number zero
unfoldable pub numbered : List (ℕ × Bool) → Bool
numbered [] = true
numbered ((zero, b) ∷ conditions) = false
numbered ((suc n, b) ∷ conditions) = numbered conditions

pub none_holds : (conditions : List (ℕ × Bool)) → numbered conditions ≡ true → or_zero (first_holding conditions) ≡ 0 → first_holding conditions ≡ none
unfolding numbered first_holding
none_holds [] h e = refl
none_holds ((zero, b) ∷ conditions) h e = absurd (false≢true h)
none_holds ((suc n, true) ∷ conditions) h e = absurd (omega (arith, e))
none_holds ((suc n, false) ∷ conditions) h e = none_holds conditions h e

opening-accepted : (m : List ℕ) (a : Admission) → or_zero (opening_refused m a) ≡ 0 → opening_refused m a ≡ none
unfolding opening_refused numbered
opening-accepted m a e =
    none_holds
    ((1, not_announcement m)
    ∷ (2, other_origin m)
    ∷ (3, malformed_announcement m)
    ∷ (4, unknown_type m)
    ∷ (5, impossible_numbers m)
    ∷ (6, dates_disordered m)
    ∷ (7, bad_codes a.codes)
    ∷ (19, limits_miscounted a)
    ∷ (20, limit_too_long a.limits)
    ∷ [])
    refl e

-- a call that tests what it is lent and returns 0, not 100, found it fit, and the number that it tells then is 0
pub zero_returned : {A : Type 0} (number : A → ℕ) (fit : Bool) (x y : A)
    → number y ≡ 100
    → 0 ≡ number (cond fit x y)
    → (fit ≡ true) × (number x ≡ 0)
zero_returned number true x y unfit e = (refl, sym e)
zero_returned number false x y unfit e = absurd (omega (arith, e, unfit))

-- an opening that returns 0 had room and is not refused
module _ (ws m : List ℕ) (a : Admission) (first : List ℕ) (opens : Opens ws m a 0 first) where
  zero_opened : (leb tender_words (length ws) ≡ true) × (or_zero (opening_refused m a) ≡ 0)
  zero_opened = zero_returned (λ (p : ℕ × List ℕ). p.0) (leb tender_words (length ws)) _ _ refl (ap (λ (p : ℕ × List ℕ). p.0) opens.equal)

  roomy : leb tender_words (length ws) ≡ true
  roomy = zero_opened.0

  pub accepted : opening_refused m a ≡ none
  accepted = opening-accepted m a zero_opened.1

-- the words stay a tender, and the tender of the rules
received-all : {ws last : List ℕ} {rs : List Reception} → is_tender ws ≡ true → ReceivesAll ws rs last → (is_tender last ≡ true) × (tender_in last ≡ receive_all (tender_in ws) rs)
unfolding receive_all
received-all g no_more = (g, refl)
received-all g (and_next {xs = xs} r told space₂ told₂ e more) =
    let next = received-all (e.given g) more in
    (next.0, next.1 ∙ ap (λ (t : rules.Tender). receive_all t xs) (e.tender g))

-- after an opening that returns 0 and receptions
pub received-tender : (m : List ℕ) (a : Admission) (rs : List Reception) (ws first last : List ℕ) → Opens ws m a 0 first → ReceivesAll first rs last
    → (is_tender last ≡ true) × (tender_in last ≡ after_receptions m a rs)
received-tender m a rs ws first last o more =
    let room = roomy ws m a first o in
    let h = accepted ws m a first o in
    let r = received-all (o.given room h) more in
    (r.0, r.1 ∙ ap (λ (t : rules.Tender). receive_all t rs) (o.tender room h))

module _ (m : List ℕ) (a : Admission) (rs : List Reception) (date time closed allotted : ℕ) (awards told awards₂ told₂ : List ℕ)
    (run : Run m a rs date time 0 closed allotted awards told awards₂ told₂) where
  not_refused : opening_refused m a ≡ none
  not_refused = accepted run.ws m a run.first run.opens

  received : (is_tender run.last ≡ true) × (tender_in run.last ≡ after_receptions m a rs)
  received = received-tender m a rs run.ws run.first run.last run.opens run.receives

  -- closing
  closing_is : rules.close (tender_in run.last) date time ≡ rules.close (after_receptions m a rs) date time
  closing_is = ap (λ (t : rules.Tender). rules.close t date time) received.1

  closing-number : (rules.close (after_receptions m a rs) date time).0 ≡ none → closed ≡ 0
  closing-number h =
      ap (λ (p : ℕ × List ℕ). p.0) (run.closes.equal ∙ sym (told-all run.last {A = ℕ × List ℕ} _ _ received.0))
      ∙ ap (λ (p : Option ℕ × rules.Tender). or_zero p.0) closing_is
      ∙ ap or_zero h

  after-given : is_tender run.after ≡ true
  after-given = run.closes.given received.0

  after_is : tender_in run.after ≡ after_closing m a rs date time
  after_is = run.closes.tender received.0 ∙ ap (λ (p : Option ℕ × rules.Tender). p.1) closing_is

  -- allotting
  abbrev shown : Option ℕ × rules.Tender × rules.Allotted → ℕ × List ℕ × List ℕ
  shown x = (or_zero x.0, awards_told x.0 x.2 awards, marginal_told x.0 x.2 told)

  allotting_is : ◌≡◌ {A = ℕ × List ℕ × List ℕ} (allotted, awards₂, told₂) (shown (rules.allot (after_closing m a rs date time)))
  allotting_is =
      ap (λ (p : ℕ × List ℕ × List ℕ × List ℕ). (p.0, p.2, p.3)) (run.allots.equal ∙ sym (told-all run.after {A = ℕ × List ℕ × List ℕ × List ℕ} _ _ after-given))
      ∙ ap (λ (t : rules.Tender). shown (rules.allot t)) after_is

  -- what is told where allotting is not refused
  allotted-told : (x : rules.Allotted) → (rules.allot (after_closing m a rs date time)).0 ≡ none → (rules.allot (after_closing m a rs date time)).2 ≡ x
      → ◌≡◌ {A = ℕ × List ℕ × List ℕ} (allotted, awards₂, told₂) (0, in_array x.awards awards, in_array (marginal_numbers x.marginal) told)
  allotted-told x h e =
      allotting_is
      ∙ ap₂ (λ (l : Option ℕ) (y : rules.Allotted). (or_zero l, awards_told l y awards, marginal_told l y told)) h e

pub arrival_order_from_c : ArrivalOrderFromC
arrival_order_from_c m a rs rearranged date time date₂ time₂ opened opened₂ closed closed₂ allotted allotted₂ awards told given shown awards₂ told₂ given₂ shown₂ run run₂ zero₁ zero₂ space agree order past past₂ =
    let one = subst (λ (n : ℕ). Run m a rs date time n closed allotted awards told given shown) zero₁ run in
    let two = subst (λ (n : ℕ). Run m a rearranged date₂ time₂ n closed₂ allotted₂ awards₂ told₂ given₂ shown₂) zero₂ run₂ in
    let theorem = arrival_order m a (not_refused m a rs date time closed allotted awards told given shown one) rs rearranged space agree order date time date₂ time₂ past past₂ in
    let final = final_allotment m a rs in
    let x = allotted-told m a rs date time closed allotted awards told given shown one final theorem.0.allots theorem.0.awarded in
    let y = allotted-told m a rearranged date₂ time₂ closed₂ allotted₂ awards₂ told₂ given₂ shown₂ two final theorem.1.allots theorem.1.awarded in (
      closing-number m a rs date time closed allotted awards told given shown one theorem.0.closes,
      ap (λ (p : ℕ × List ℕ × List ℕ). p.0) x,
      closing-number m a rearranged date₂ time₂ closed₂ allotted₂ awards₂ told₂ given₂ shown₂ two theorem.1.closes,
      ap (λ (p : ℕ × List ℕ × List ℕ). p.0) y,
      ap (λ (p : ℕ × List ℕ × List ℕ). p.1) x,
      ap (λ (p : ℕ × List ℕ × List ℕ). p.2) x,
      ap (λ (p : ℕ × List ℕ × List ℕ). p.1) y,
      ap (λ (p : ℕ × List ℕ × List ℕ). p.2) y,
      ap (λ (z : rules.Allotted). sum z.awards) (sym theorem.0.awarded) ∙ theorem.3,
    )
