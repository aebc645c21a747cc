-- Laws of what is told for a code: its entry, its time and its places in the words. Assumes nothing.
use mathlib.Core.Path.{◌≡◌, refl, sym, ap, ap₂, ◌∙◌}
use mathlib.Core.Bool.{Bool, true, false, cond}
use mathlib.Core.List.{List, ◌∷◌, ◌++◌, map}
use mathlib.Core.Option as maybe
use Prim.Native.Nat.{ℕ, zero, suc, ◌+◌, ◌*◌, ◌-◌, ◌≤◌, ◌<◌}
use native.Mathlib.Omega.{arith}
use lib.Dec.{eqb, ltb}
use lib.ListN.{length, take, drop, get_or, length-take, length-drop}
use lib.Seq.{drop-cons}
use Rattle.std.specs.Prelude.{Option, Some, None}
use Rattle.places.specs.declared.Rate.{Rate}
use Rattle.places.specs.declared.Amount.{Amount}
use Rattle.rules.specs.Allotment.{Bid}
use Rattle.rules.specs.Receiving.{Entry}
use Rattle.bids.specs.Columns.{no_rate, no_amount, bids_from}
use Rattle.book.specs.declared.Book.{Book}
use Rattle.book.specs.Viewed.{amount_of, entry_at, entries_from, up_to64, viewed, find_from}
use Rattle.book.proofs.Mapped.{mapped_at}
use Rattle.buffer.specs.Words.{tender_words, part, low32, stored_rate, book_in}
use Rattle.buffer.proofs.Parts.{part_length, word_at}
use Rattle.buffer.proofs.Words.{held_at_lem}
use Rattle.buffer_questions.specs.Told.{entry_of, time_numbers, held_numbers}

-- the entry that a search found
abbrev entry_found : Book → Option ℕ → maybe.Option Entry
entry_found b (Some i) = maybe.some (entry_at b i)
entry_found b None = maybe.none

entry_from : (b : Book) (c i d : ℕ) → entry_of (entries_from b i d) c ≡ entry_found b (find_from (entries_from b i d) c i)
unfolding entry_of entries_from find_from
entry_from b c i zero = refl
entry_from b c i (suc d) = go (eqb (entry_at b i).code c) (entry_from b c (suc i) d)
  where
    go : (t : Bool) → entry_of (entries_from b (suc i) d) c ≡ entry_found b (find_from (entries_from b (suc i) d) c (suc i))
        → cond t (maybe.some (entry_at b i)) (entry_of (entries_from b (suc i) d) c) ≡ entry_found b (cond t (Some i) (find_from (entries_from b (suc i) d) c (suc i)))
    go true rest = refl
    go false rest = rest

module _ (b : Book) (c : ℕ) (found : Option ℕ) (e : found ≡ find_from (viewed b) c 0) where
  entry_found_lem : entry_found b found ≡ entry_of (viewed b) c
  unfolding viewed
  entry_found_lem = ap (entry_found b) e ∙ sym (entry_from b c 0 (up_to64 b.n))

  -- a code that is found has the entry at the index found
  pub found-entry : (at : ℕ) → found ≡ Some at → maybe.some (entry_at b at) ≡ entry_of (viewed b) c
  found-entry at h = sym (ap (entry_found b) h) ∙ entry_found_lem

  -- one that is not has none
  pub absent_entry : found ≡ None → maybe.none ≡ entry_of (viewed b) c
  absent_entry h = sym (ap (entry_found b) h) ∙ entry_found_lem

module _ (ws : List ℕ) (long : tender_words ≤ length ws) where
  abbrev rates : List Rate
  rates = map stored_rate (part 216 640 ws)

  abbrev amounts : List Amount
  amounts = map amount_of (part 856 640 ws)

  -- a word and the words after it
  and_next : (from i d : ℕ) → from + i < length ws → get_or ws (from + i) 0 ∷ part (from + suc i) d ws ≡ part (from + i) (suc d) ws
  and_next from i d h =
      let e : from + suc i ≡ suc (from + i) = omega arith in
      ap (λ (k : ℕ). get_or ws (from + i) 0 ∷ part k d ws) e ∙ sym (ap (take (suc d)) (drop-cons ws (from + i) 0 h))

  -- the rates of places are the last bits of their words
  rates_from : (i d : ℕ) → i + d ≤ 640 → map (λ (b : Bid). b.rate) (bids_from rates amounts i d) ≡ map low32 (part (216 + i) d ws)
  unfolding bids_from
  rates_from i zero h = refl
  rates_from i (suc d) h =
      let l = part_length ws 216 640 (omega arith) in
      let first : (get_or rates i no_rate).0 ≡ low32 (get_or ws (216 + i) 0) = ap (λ (r : Rate). r.0) (sym (mapped_at stored_rate (part 216 640 ws) i 0 no_rate (omega (arith, l)))) ∙ ap low32 (word_at ws 216 640 i (omega arith)) in
      ap₂ (λ (x : ℕ) (y : List ℕ). x ∷ y) first (rates_from (suc i) d (omega arith)) ∙ ap (map low32) (and_next 216 i d (omega arith))

  -- the amounts of places are their words
  amounts_from : (i d : ℕ) → i + d ≤ 640 → map (λ (b : Bid). b.amount) (bids_from rates amounts i d) ≡ part (856 + i) d ws
  unfolding bids_from
  amounts_from i zero h = refl
  amounts_from i (suc d) h =
      let l = part_length ws 856 640 (omega arith) in
      let first : (get_or amounts i no_amount).0 ≡ get_or ws (856 + i) 0 = ap (λ (x : Amount). x.0) (sym (mapped_at amount_of (part 856 640 ws) i 0 no_amount (omega (arith, l)))) ∙ word_at ws 856 640 i (omega arith) in
      ap₂ (λ (x : ℕ) (y : List ℕ). x ∷ y) first (amounts_from (suc i) d (omega arith)) ∙ and_next 856 i d (omega arith)

  module _ (at : ℕ) (below : at < 64) where
    -- the words that are lent for the rates and the amounts of a code
    abbrev pub rate-words : List ℕ
    rate-words = take (226 + 10 * at - (216 + 10 * at)) (drop (216 + 10 * at) ws)

    abbrev pub amount-words : List ℕ
    amount-words = take (866 + 10 * at - (856 + 10 * at)) (drop (856 + 10 * at) ws)

    -- they are ten
    ten : (from to : ℕ) → from + 10 ≡ to → to + 630 ≤ length ws → length (take (to + 10 * at - (from + 10 * at)) (drop (from + 10 * at) ws)) ≡ 10
    ten from to e h = length-take (to + 10 * at - (from + 10 * at)) (drop (from + 10 * at) ws) ∙ omega (arith, length-drop (from + 10 * at) ws)

    pub rates_long : length rate-words ≡ 10
    rates_long = ten 216 226 (omega arith) (omega arith)

    pub amounts_long : length amount-words ≡ 10
    amounts_long = ten 856 866 (omega arith) (omega arith)

    -- the words of a code, one part after the other
    pub held-joined : (1 ∷ time_numbers (cond (ltb 0 (get_or ws (152 + at) 0)) (maybe.some (get_or ws (88 + at) 0)) maybe.none)) ++ map low32 rate-words ++ amount-words ≡ held_numbers (maybe.some (entry_at (book_in ws) at))
    unfolding held_numbers entry_at book_in
    held-joined =
        let r : 226 + 10 * at - (216 + 10 * at) ≡ 10 = omega arith in
        let x : 866 + 10 * at - (856 + 10 * at) ≡ 10 = omega arith in
        let rs = ap (λ (n : ℕ). map low32 (take n (drop (216 + 10 * at) ws))) r ∙ sym (rates_from (10 * at) 10 (omega arith)) in
        let xs = ap (λ (n : ℕ). take n (drop (856 + 10 * at) ws)) x ∙ sym (amounts_from (10 * at) 10 (omega arith)) in
        λ i. (1 ∷ time_numbers (sym (held_at_lem ws at long below) i)) ++ rs i ++ xs i
