-- The words in which a code holds a time and ten places, viewed as a tender. Assumes nothing.
use mathlib.Core.Path.{◌≡◌, refl, sym, ap, ◌∙◌}
use mathlib.Core.Bool.{true}
use mathlib.Core.List.{List, map}
use Prim.Native.Nat.{ℕ, ◌+◌, ◌*◌, ◌≤◌, ◌<◌}
use native.Mathlib.Omega.{arith}
use lib.Dec.{ltb}
use lib.ListN.{length, get_or, set, length-set, length-map}
use lib.Seq.{sets, get_or-set_other, length-sets}
use Rattle.places.specs.declared.Rate.{Rate}
use Rattle.places.specs.declared.Amount.{Amount}
use Rattle.rules.specs.Opening.{admitting}
use Rattle.bids.specs.Columns.{cents, bids_from}
use Rattle.book.specs.Viewed.{hundred_thousandths, amount_of, viewed, codes_in, limits_in, replaced}
use Rattle.book.proofs.Joining.{replaced-codes}
use Rattle.book.proofs.Order.{there_and_back}
use Rattle.book.proofs.Storing.{stored, viewed_stored, get_or_sets_low}
use Rattle.terms.specs.Viewed as terms
use Rattle.refusals.specs.Conditions.{state_of}
use Rattle.buffer.specs.Words.{tender_words, part, stored_rate, state_in, book_in, tender_in, is_tender, holding}
use Rattle.buffer.proofs.Parts.{set_before, set_past, set_in, sets_before, sets_past, sets_in, map-set, map_sets}
use Rattle.buffer.proofs.Words.{Known, sized, terms_from, terms_from_lem, still_tender}

module _ (ws : List ℕ) (long : tender_words ≤ length ws) (at time : ℕ) (rates : List Rate) (amounts : List Amount) (below : at < 64) (ten : length rates ≡ 10) (tens : length amounts ≡ 10) where
  abbrev timed_words : List ℕ
  timed_words = set (set ws (88 + at) time) (152 + at) 1

  abbrev rs : List ℕ
  rs = map hundred_thousandths rates

  abbrev xs : List ℕ
  xs = map cents amounts

  abbrev rated : List ℕ
  rated = sets timed_words (216 + 10 * at) rs

  ten_rs : length rs ≡ 10
  ten_rs = length-map rates hundred_thousandths ∙ ten

  ten_xs : length xs ≡ 10
  ten_xs = length-map amounts cents ∙ tens

  -- words before the times stay
  pub first-stays : (from n : ℕ) → from + n ≤ 88 → part from n (holding ws at time rates amounts) ≡ part from n ws
  unfolding holding
  first-stays from n h =
      sets_past rated from n (856 + 10 * at) xs (omega arith)
      ∙ sets_past timed_words from n (216 + 10 * at) rs (omega arith)
      ∙ set_past (set ws (88 + at) time) from n (152 + at) 1 (omega arith)
      ∙ set_past ws from n (88 + at) time (omega arith)

  word_stays : (i : ℕ) → i < 88 → get_or (holding ws at time rates amounts) i 0 ≡ get_or ws i 0
  unfolding holding
  word_stays i h =
      get_or_sets_low rated (856 + 10 * at) xs i 0 (omega arith)
      ∙ get_or_sets_low timed_words (216 + 10 * at) rs i 0 (omega arith)
      ∙ get_or-set_other (set ws (88 + at) time) (152 + at) i 1 0 (λ e. omega (arith, e, h))
      ∙ get_or-set_other ws (88 + at) i time 0 (λ e. omega (arith, e, h))

  times_are : part 88 64 (holding ws at time rates amounts) ≡ set (part 88 64 ws) at time
  unfolding holding
  times_are =
      sets_past rated 88 64 (856 + 10 * at) xs (omega arith)
      ∙ sets_past timed_words 88 64 (216 + 10 * at) rs (omega arith)
      ∙ set_past (set ws (88 + at) time) 88 64 (152 + at) 1 (omega arith)
      ∙ set_in ws 88 64 at time below

  flags_are : part 152 64 (holding ws at time rates amounts) ≡ set (part 152 64 ws) at 1
  unfolding holding
  flags_are =
      sets_past rated 152 64 (856 + 10 * at) xs (omega arith)
      ∙ sets_past timed_words 152 64 (216 + 10 * at) rs (omega arith)
      ∙ set_in (set ws (88 + at) time) 152 64 at 1 below
      ∙ ap (λ (l : List ℕ). set l at 1) (set_before ws 152 64 (88 + at) time (omega arith))

  rates_are : part 216 640 (holding ws at time rates amounts) ≡ sets (part 216 640 ws) (10 * at) rs
  unfolding holding
  rates_are =
      sets_past rated 216 640 (856 + 10 * at) xs (omega arith)
      ∙ sets_in timed_words 216 640 (10 * at) rs (omega (arith, ten_rs))
      ∙ ap (λ (l : List ℕ). sets l (10 * at) rs) (set_before (set ws (88 + at) time) 216 640 (152 + at) 1 (omega arith) ∙ set_before ws 216 640 (88 + at) time (omega arith))

  amounts_are : part 856 640 (holding ws at time rates amounts) ≡ sets (part 856 640 ws) (10 * at) xs
  unfolding holding
  amounts_are =
      sets_in rated 856 640 (10 * at) xs (omega (arith, ten_xs))
      ∙ ap (λ (l : List ℕ). sets l (10 * at) xs)
      (sets_before timed_words 856 640 (216 + 10 * at) rs (omega (arith, ten_rs)) ∙ set_before (set ws (88 + at) time) 856 640 (152 + at) 1 (omega arith) ∙ set_before ws 856 640 (88 + at) time (omega arith))

  limits_stay : part 1496 64 (holding ws at time rates amounts) ≡ part 1496 64 ws
  unfolding holding
  limits_stay =
      sets_before rated 1496 64 (856 + 10 * at) xs (omega (arith, ten_xs))
      ∙ sets_before timed_words 1496 64 (216 + 10 * at) rs (omega (arith, ten_rs))
      ∙ set_before (set ws (88 + at) time) 1496 64 (152 + at) 1 (omega arith)
      ∙ set_before ws 1496 64 (88 + at) time (omega arith)

  pub holding-length : length (holding ws at time rates amounts) ≡ length ws
  unfolding holding
  holding-length = length-sets rated (856 + 10 * at) xs ∙ length-sets timed_words (216 + 10 * at) rs ∙ length-set (set ws (88 + at) time) (152 + at) 1 ∙ length-set ws (88 + at) time

  pub holding-given : Known ws → is_tender (holding ws at time rates amounts) ≡ true
  holding-given k =
      let state = word_stays 1 (omega arith) in
      still_tender ws (holding ws at time rates amounts) k (sym holding-length) (word_stays 0 (omega arith)) (omega (arith, k.in_state_lem, state)) (word_stays 2 (omega arith)) (first-stays 24 64 (omega arith))

  module _ (fits : map stored_rate (map hundred_thousandths rates) ≡ rates) where
    pub book-held : book_in (holding ws at time rates amounts) ≡ stored (book_in ws) at time rates amounts
    unfolding book_in
    book-held =
        let flags = ap (map (ltb 0)) flags_are ∙ map-set (ltb 0) (part 152 64 ws) at 1 in
        let rs_are = ap (map stored_rate) rates_are ∙ map_sets stored_rate (part 216 640 ws) (10 * at) rs ∙ ap (sets (map stored_rate (part 216 640 ws)) (10 * at)) fits in
        let xs_are = ap (map amount_of) amounts_are ∙ map_sets amount_of (part 856 640 ws) (10 * at) xs ∙ ap (sets (map amount_of (part 856 640 ws)) (10 * at)) (there_and_back amount_of cents (λ x. refl) amounts) in
        λ t. record {
          codes = first-stays 24 64 (omega arith) t;
          n = word_stays 2 (omega arith) t;
          limits = limits_stay t;
          held = times_are t;
          has = flags t;
          rates = rs_are t;
          amounts = xs_are t;
        }

    pub entries-held : viewed (book_in (holding ws at time rates amounts)) ≡ replaced (viewed (book_in ws)) at time (bids_from rates amounts 0 10)
    entries-held = ap viewed book-held ∙ viewed_stored (book_in ws) (sized ws long) at time rates amounts below ten tens

    -- only the entries change
    pub tender-held : tender_in (holding ws at time rates amounts) ≡ record { terms = (tender_in ws).terms; state = (tender_in ws).state; book = replaced (viewed (book_in ws)) at time (bids_from rates amounts 0 10) }
    tender-held =
        let next = holding ws at time rates amounts in
        let t = terms_from_lem next ∙ ap terms_from (first-stays 3 21 (omega arith)) ∙ sym (terms_from_lem ws) in
        let codes = ap codes_in entries-held ∙ replaced-codes (viewed (book_in ws)) at time (bids_from rates amounts 0 10) in
        λ i. record { terms = terms.viewed (t i) (admitting (codes i) (limits_in (book-held i))); state = state_of (state_in (word_stays 1 (omega arith) i)); book = entries-held i }
