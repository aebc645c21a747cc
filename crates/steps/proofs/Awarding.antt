-- The lines of an allotment: that of a refusal, or those of the awards, to which places of absent codes add none. Assumes nothing.
use Rattle.std.specs.Prelude.{Result, Ok}
use Rattle.std.specs.Prelude as prelude
use mathlib.Core.Path.{◌≡◌, refl, sym, ap, ap₂, ◌∙◌}
use mathlib.Core.Bool.{cond, true}
use mathlib.Core.List.{List, [], ◌∷◌, ◌++◌, map}
use mathlib.Core.Option.{Option}
use Prim.Native.Nat.{ℕ, zero, suc, ◌+◌, ◌*◌, ◌-◌, ◌≤◌}
use native.Mathlib.Nat.{sub-zero}
use native.Mathlib.Omega.{arith}
use lib.Dec.{ltb}
use lib.ListN.{length, take, drop, get_or, length-append, length-drop}
use lib.Seq.{drop-append-le, take-take}
use Rattle.places.specs.declared.Rate.{Rate}
use Rattle.rules.specs.Allotment.{Bid}
use Rattle.rules.specs.Receiving.{Entry}
use Rattle.rules.specs.Calls.{Tender, Allotted, bids_in_book}
use Rattle.bids.specs.Columns.{bids_of}
use Rattle.book.specs.Viewed.{up_to64, viewed, codes_in}
use Rattle.book.proofs.Empty.{up_to64_stays}
use Rattle.book.proofs.Order.{codes-viewed}
use Rattle.refusals.specs.declared.Refusal.{Refusal}
use Rattle.refusals.specs.Conditions.{refusal_number}
use Rattle.outcomes.specs.Allotting.{marginal_in}
use Rattle.buffer.specs.Words.{part, low32, book_in, tender_in, is_tender}
use Rattle.buffer.proofs.Words.{known, sized}
use Rattle.in_place.specs.InPlace.{AllotsIn}
use Rattle.buffer_allotment.proofs.Lent.{bids_lent}
use Rattle.award_lines.proofs.Places.{length_in_book}
use Rattle.log_rules.specs.Lines.{award_line, place_lines, award_lines}
use Rattle.log_rules.specs.Steps.{awards_line, allotted}

place_lines_lem : (code place : ℕ) (bs : List Bid) (xs rest : List ℕ) → length bs ≤ length xs → place_lines code place bs (xs ++ rest) ≡ place_lines code place bs xs
unfolding place_lines
place_lines_lem code place [] xs rest h = refl
place_lines_lem code place (b ∷ bs) [] rest h = absurd (let z : ◌≡◌ {A = ℕ} 0 1 = omega arith in omega arith)
place_lines_lem code place (b ∷ bs) (x ∷ xs) rest h = ap (λ (l : List ℕ). cond (ltb 0 x) (award_line code place b.rate x) [] ++ l) (place_lines_lem code (suc place) bs xs rest (omega arith))

-- awards past the last bid have no lines
no_more_lines : (es : List Entry) (xs rest : List ℕ) → length (bids_in_book es) ≤ length xs → award_lines es (xs ++ rest) ≡ award_lines es xs
unfolding award_lines bids_in_book
no_more_lines [] xs rest h = refl
no_more_lines (e ∷ es) xs rest h =
    let n = length-append e.bids (bids_in_book es) in
    let d = length-drop (length e.bids) xs in
    ap₂ (λ (l m : List ℕ). l ++ m)
    (place_lines_lem e.code 1 e.bids xs rest (omega (arith, h, n)))
    (ap (award_lines es) (drop-append-le (length e.bids) xs rest (omega (arith, h, n))) ∙ no_more_lines es (drop (length e.bids) xs) rest (omega (arith, h, n, d)))

-- the lines by the refusal, where the book is that of the words after
module _ (ws : List ℕ) (r : Result (prelude.Option Rate) Refusal) (after awards : List ℕ) (a : AllotsIn ws r after awards) where
  pub tender-allotted : (allotted (tender_in ws)).0 ≡ tender_in after
  tender-allotted = sym (ap (λ (p : Option ℕ × Tender × Allotted). p.1) a.equal)

  pub lines_are : awards_line (refusal_number r, tender_in after, record { awards = awards; marginal = marginal_in r }) ≡ (allotted (tender_in ws)).1
  lines_are = ap awards_line a.equal

pub lines-awarded : (ws : List ℕ) (m : prelude.Option Rate) (after awards : List ℕ) → AllotsIn ws (Ok m) after awards → (xs rest : List ℕ) → xs ++ rest ≡ awards → length (bids_in_book (viewed (book_in after))) ≤ length xs
    → award_lines (viewed (book_in after)) xs ≡ (allotted (tender_in ws)).1
lines-awarded ws m after awards a xs rest q long =
    sym (no_more_lines (viewed (book_in after)) xs rest long) ∙ ap (award_lines (viewed (book_in after))) q ∙ lines_are ws (Ok m) after awards a

map-take : (f : ℕ → ℕ) (n : ℕ) (l : List ℕ) → map f (take n l) ≡ take n (map f l)
map-take f zero l = refl
map-take f (suc n) [] = refl
map-take f (suc n) (x ∷ l) = ap (λ (y : List ℕ). f x ∷ y) (map-take f n l)

-- what the words of a tender lend
module _ (ws : List ℕ) (given : is_tender ws ≡ true) where
  abbrev n : ℕ
  n = get_or ws 2 0

  pub count : up_to64 (get_or ws 2 0) ≡ get_or ws 2 0
  count = let k = (known ws given).few-codes in up_to64_stays n (omega (arith, k))

  pub codes_there : codes_in (viewed (book_in ws)) ≡ take (24 + n - 24) (drop 24 ws)
  unfolding book_in
  codes_there =
      let k = known ws given in
      let e : 24 + n - 24 ≡ n = omega arith in
      codes-viewed (book_in ws) (sized ws k.long).codes-length
      ∙ ap (λ (i : ℕ). take i (part 24 64 ws)) count
      ∙ take-take n 64 (drop 24 ws) (let f = k.few-codes in omega (arith, f))
      ∙ ap (λ (i : ℕ). take i (drop 24 ws)) (sym e)

  pub bids_there : bids_of (map low32 (take (216 + 10 * n - 216) (drop 216 ws))) (take (856 + 10 * n - 856) (drop 856 ws)) ≡ bids_in_book (viewed (book_in ws))
  bids_there =
      let k = known ws given in
      let f = k.few-codes in
      let e : 216 + 10 * n - 216 ≡ 10 * n = omega arith in
      let lent : map low32 (take (216 + 10 * n - 216) (drop 216 ws)) ≡ take (10 * n - 0) (map low32 (part 216 640 ws)) =
      ap (λ (i : ℕ). map low32 (take i (drop 216 ws))) e
      ∙ ap (map low32) (sym (take-take (10 * n) 640 (drop 216 ws) (omega (arith, f))))
      ∙ map-take low32 (10 * n) (part 216 640 ws)
      ∙ ap (λ (i : ℕ). take i (map low32 (part 216 640 ws))) (sym (sub-zero (10 * n))) in
      ap (λ (l : List ℕ). bids_of l (take (856 + 10 * n - 856) (drop 856 ws))) lent
      ∙ bids_lent ws n (map low32 (part 216 640 ws)) k.long (sym count) (omega (arith, f)) refl

  -- ten bids for each code
  pub bids-count : length (bids_in_book (viewed (book_in ws))) ≡ 10 * n
  unfolding book_in viewed
  bids-count = length_in_book (book_in ws) 0 (up_to64 n) ∙ ap (λ (i : ℕ). 10 * i) count
