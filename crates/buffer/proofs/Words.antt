-- What words that hold a tender are known for, and what of them a stored word leaves. Assumes nothing.
use mathlib.Core.Path.{◌≡◌, sym, ap, ap₂, ◌∙◌}
use mathlib.Core.Bool.{Bool, true, false, cond, ◌&&◌}
use mathlib.Core.List.{List, map}
use mathlib.Core.Option.{none, some}
use Prim.Native.Nat.{ℕ, ◌+◌, ◌≤◌, ◌<◌}
use native.Mathlib.Omega.{arith}
use lib.Dec.{eqb, ltb, leb}
use lib.ListN.{length, take, drop, get_or, set, length-map, length-set}
use lib.Seq.{get_or-take, get_or-drop, get_or-set_same, get_or-set_other, take-take}
use borrow.Author.Tests.{ltb-true, leb-true, eqb-true, lt-ltb, le-leb, eq-eqb}
use Rattle.laws.proofs.Tests.{and_left, and_right}
use Rattle.rules.specs.Opening.{rising}
use Rattle.rules.specs.Calls as rules
use Rattle.book.specs.Viewed.{amount_of, held_at, viewed, codes_in}
use Rattle.book.proofs.Order.{codes-viewed}
use Rattle.book.proofs.Empty.{up_to64_stays}
use Rattle.book.proofs.Mapped.{mapped_at}
use Rattle.book.proofs.Storing.{Sized, stored}
use Rattle.terms.specs.declared.Terms.{Terms}
use Rattle.refusals.specs.Conditions.{state_of}
use Rattle.outcomes.specs.Outcomes.{viewed_of}
use Rattle.buffer.specs.Words.{tender_words, form_number, part, byte_in, stored_rate, state_in, side_in, terms_in, book_in, tender_in, is_tender}
use Rattle.buffer.proofs.Parts.{part_length, word_at, set_before}

-- what is_tender says
pub record Known (ws : List ℕ) : Type 0 where
  pub long : tender_words ≤ length ws
  pub form : get_or ws 0 0 ≡ form_number
  pub in_state_lem : get_or ws 1 0 < 4
  pub some_codes : 0 < get_or ws 2 0
  pub few-codes : get_or ws 2 0 < 65
  pub rises : rising (take (get_or ws 2 0) (part 24 64 ws)) ≡ true

pub known : (ws : List ℕ) → is_tender ws ≡ true → Known ws
unfolding is_tender
known ws h =
    let a = leb tender_words (length ws) in
    let b = eqb (get_or ws 0 0) form_number in
    let c = ltb (get_or ws 1 0) 4 in
    let d = ltb 0 (get_or ws 2 0) in
    let e = ltb (get_or ws 2 0) 65 in
    let f = rising (take (get_or ws 2 0) (part 24 64 ws)) in
    let h₁ = and_left (a && b && c && d && e) f h in
    let h₂ = and_left (a && b && c && d) e h₁ in
    let h₃ = and_left (a && b && c) d h₂ in
    let h₄ = and_left (a && b) c h₃ in
    record {
      long = leb-true tender_words (length ws) (and_left a b h₄);
      form = eqb-true (get_or ws 0 0) form_number (and_right a b h₄);
      in_state_lem = ltb-true (get_or ws 1 0) 4 (and_right (a && b) c h₃);
      some_codes = ltb-true 0 (get_or ws 2 0) (and_right (a && b && c) d h₂);
      few-codes = ltb-true (get_or ws 2 0) 65 (and_right (a && b && c && d) e h₁);
      rises = and_right (a && b && c && d && e) f h;
    }

-- the codes of the tender are the first of their part, and rise
pub codes_are : (ws : List ℕ) → Known ws → codes_in (viewed (book_in ws)) ≡ take (get_or ws 2 0) (part 24 64 ws)
unfolding book_in
codes_are ws k =
    codes-viewed (book_in ws) (part_length ws 24 64 (omega (arith, k.long)))
    ∙ ap (λ (n : ℕ). take n (part 24 64 ws)) (up_to64_stays (get_or ws 2 0) (omega (arith, k.few-codes)))

pub codes_rise : (ws : List ℕ) → Known ws → rising (codes_in (viewed (book_in ws))) ≡ true
codes_rise ws k = ap rising (codes_are ws k) ∙ k.rises

-- what is held at an index
pub held_at_lem : (ws : List ℕ) (i : ℕ) → tender_words ≤ length ws → i < 64 → held_at (book_in ws) i ≡ cond (ltb 0 (get_or ws (152 + i) 0)) (some (get_or ws (88 + i) 0)) none
unfolding held_at book_in
held_at_lem ws i h k =
    let n = part_length ws 152 64 (omega arith) in
    ap₂ (λ (b : Bool) (t : ℕ). cond b (some t) none) (sym (mapped_at (ltb 0) (part 152 64 ws) i 0 false (omega (arith, n, k))) ∙ ap (ltb 0) (word_at ws 152 64 i k)) (word_at ws 88 64 i k)

-- the arrays of the book have their lengths
pub sized : (ws : List ℕ) → tender_words ≤ length ws → Sized (book_in ws)
unfolding book_in
sized ws h =
    record {
      codes-length = part_length ws 24 64 (omega arith);
      held-length = part_length ws 88 64 (omega arith);
      has_length = length-map (part 152 64 ws) (ltb 0) ∙ part_length ws 152 64 (omega arith);
      rates_length = length-map (part 216 640 ws) stored_rate ∙ part_length ws 216 640 (omega arith);
      amounts_length = length-map (part 856 640 ws) amount_of ∙ part_length ws 856 640 (omega arith);
    }

-- the terms of the 21 words that hold them
unfoldable pub terms_from : List ℕ → Terms
terms_from l =
    record {
      identifier = map byte_in (take 11 l);
      side = side_in (get_or l 11 0);
      execution = get_or l 12 0;
      cutoff = get_or l 13 0;
      most = get_or l 14 0;
      offered = amount_of (get_or l 15 0);
      minimum = amount_of (get_or l 16 0);
      increment = amount_of (get_or l 17 0);
      maximum = amount_of (get_or l 18 0);
      allocation = amount_of (get_or l 19 0);
      limit = stored_rate (get_or l 20 0);
    }

pub terms_from_lem : (ws : List ℕ) → terms_in ws ≡ terms_from (part 3 21 ws)
unfolding terms_in terms_from
terms_from_lem ws =
    let at : (i : ℕ) → i < 21 → get_or ws (3 + i) 0 ≡ get_or (part 3 21 ws) i 0 = λ i h. sym (get_or-take 21 (drop 3 ws) i 0 h ∙ get_or-drop 3 ws i 0) in
    let first : part 3 11 ws ≡ take 11 (part 3 21 ws) = sym (take-take 11 21 (drop 3 ws) (omega arith)) in
    λ t. record {
      identifier = map byte_in (first t);
      side = side_in (at 11 (omega arith) t);
      execution = at 12 (omega arith) t;
      cutoff = at 13 (omega arith) t;
      most = at 14 (omega arith) t;
      offered = amount_of (at 15 (omega arith) t);
      minimum = amount_of (at 16 (omega arith) t);
      increment = amount_of (at 17 (omega arith) t);
      maximum = amount_of (at 18 (omega arith) t);
      allocation = amount_of (at 19 (omega arith) t);
      limit = stored_rate (at 20 (omega arith) t);
    }

-- words that agree in form, count and codes, in a state, hold a tender if one of them does
pub still_tender : (ws next : List ℕ) → Known ws → length ws ≡ length next → get_or next 0 0 ≡ get_or ws 0 0 → get_or next 1 0 < 4 → get_or next 2 0 ≡ get_or ws 2 0 → part 24 64 next ≡ part 24 64 ws → is_tender next ≡ true
unfolding is_tender
still_tender ws next k long form in_state_lem count codes =
    rw (
      le-leb tender_words (length next) (omega (arith, k.long, long)),
      eq-eqb (get_or next 0 0) form_number (form ∙ k.form),
      lt-ltb (get_or next 1 0) 4 in_state_lem,
      lt-ltb 0 (get_or next 2 0) (omega (arith, count, k.some_codes)),
      lt-ltb (get_or next 2 0) 65 (omega (arith, count, k.few-codes)),
    )
    (ap₂ (λ (n : ℕ) (l : List ℕ). rising (take n l)) count codes ∙ k.rises)

-- the words in another state
module _ (ws : List ℕ) (k : Known ws) (w : ℕ) where
  pub in_state_book : book_in (set ws 1 w) ≡ book_in ws
  unfolding book_in
  in_state_book = λ t. record {
    codes = set_before ws 24 64 1 w (omega arith) t;
    n = get_or-set_other ws 1 2 w 0 (λ e. omega (arith, e)) t;
    limits = set_before ws 1496 64 1 w (omega arith) t;
    held = set_before ws 88 64 1 w (omega arith) t;
    has = map (ltb 0) (set_before ws 152 64 1 w (omega arith) t);
    rates = map stored_rate (set_before ws 216 640 1 w (omega arith) t);
    amounts = map amount_of (set_before ws 856 640 1 w (omega arith) t);
  }

  pub in_state_tender : tender_in (set ws 1 w) ≡ rules.in_state (state_of (state_in w)) (tender_in ws)
  in_state_tender =
      let s = get_or-set_same ws 1 w 0 (omega (arith, k.long)) in
      let t = terms_from_lem (set ws 1 w) ∙ ap terms_from (set_before ws 3 21 1 w (omega arith)) ∙ sym (terms_from_lem ws) in
      λ i. viewed_of (state_in (s i)) (t i) (in_state_book i)

  pub in_state_given : w < 4 → is_tender (set ws 1 w) ≡ true
  in_state_given h =
      still_tender ws (set ws 1 w) k (sym (length-set ws 1 w)) (get_or-set_other ws 1 0 w 0 (λ e. omega (arith, e))) (omega (arith, h, get_or-set_same ws 1 w 0 (omega (arith, k.long))))
      (get_or-set_other ws 1 2 w 0 (λ e. omega (arith, e))) (set_before ws 24 64 1 w (omega arith))
