-- The bids and limits that the words lend are those of the book. Assumes nothing.
use mathlib.Core.Path.{◌≡◌, refl, sym, ap, ap₂, ◌∙◌}
use mathlib.Core.List.{List, [], ◌∷◌, map}
use Prim.Native.Nat.{ℕ, ◌+◌, ◌*◌, ◌-◌, ◌≤◌}
use native.Mathlib.Nat.{sub-zero}
use native.Mathlib.Omega.{arith}
use lib.ListN.{length, take, drop, get_or}
use lib.Seq.{take-take}
use Rattle.rules.specs.Calls.{bids_in_book}
use Rattle.bids.specs.Columns.{bids_of, cents}
use Rattle.book.specs.Viewed.{hundred_thousandths, amount_of, up_to64, viewed, limits_in}
use Rattle.book.proofs.Order.{bids-numbered, there_and_back}
use Rattle.buffer.specs.Words.{tender_words, part, low32, stored_rate, book_in}
use Rattle.buffer.proofs.Words.{sized}

-- the first n words of a part that are lent
pub part_lent : (ws : List ℕ) (at k n : ℕ) → n ≤ k → take (at + n - at) (drop at ws) ≡ take n (part at k ws)
part_lent ws at k n h =
    let e : at + n - at ≡ n = omega arith in
    ap (λ (j : ℕ). take j (drop at ws)) e ∙ sym (take-take n k (drop at ws) h)

rates_back : (l : List ℕ) → map hundred_thousandths (map stored_rate l) ≡ map low32 l
rates_back [] = refl
rates_back (w ∷ l) = ap (λ (y : List ℕ). low32 w ∷ y) (rates_back l)

-- the bids that are lent are those of the book
pub bids_lent : (ws : List ℕ) (n : ℕ) (rates : List ℕ) → tender_words ≤ length ws → n ≡ up_to64 (get_or ws 2 0) → 10 * n ≤ 640 → take (10 * n) rates ≡ take (10 * n) (map low32 (part 216 640 ws))
    → bids_of (take (10 * n - 0) rates) (take (856 + 10 * n - 856) (drop 856 ws)) ≡ bids_in_book (viewed (book_in ws))
unfolding book_in
bids_lent ws n rates long e few is =
    let b = book_in ws in
    let s = sized ws long in
    let rs : take (10 * n) rates ≡ take (10 * n) (map hundred_thousandths b.rates) = is ∙ ap (take (10 * n)) (sym (rates_back (part 216 640 ws))) in
    let xs : part 856 640 ws ≡ map cents b.amounts = sym (there_and_back cents amount_of (λ x. refl) (part 856 640 ws)) in
    ap₂ (λ (k : ℕ) (l : List ℕ). bids_of (take k rates) l) (sub-zero (10 * n)) (part_lent ws 856 640 (10 * n) few)
    ∙ ap₂ (λ (r x : List ℕ). bids_of r (take (10 * n) x)) rs xs
    ∙ ap (λ (k : ℕ). bids_of (take (10 * k) (map hundred_thousandths b.rates)) (take (10 * k) (map cents b.amounts))) e
    ∙ bids-numbered b s.rates_length s.amounts_length

-- the limits that are lent are those of the book
pub limits_lent : (ws : List ℕ) (n : ℕ) → n ≡ up_to64 (get_or ws 2 0) → n ≤ 64 → take (1496 + n - 1496) (drop 1496 ws) ≡ limits_in (book_in ws)
unfolding book_in
limits_lent ws n e few = part_lent ws 1496 64 n few ∙ ap (λ (k : ℕ). take k (part 1496 64 ws)) e
