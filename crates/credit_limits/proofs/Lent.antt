-- The awards of a counterparty come to at most its cap. Assumes nothing.
use mathlib.Core.Path.{◌≡◌, refl, sym, ◌∙◌, ap}
use mathlib.Core.Bool.{Bool, true, false, cond, false≢true}
use mathlib.Core.List.{List, [], ◌∷◌, ◌++◌}
use Prim.Native.Nat.{ℕ, zero, suc, ◌+◌, ◌*◌, ◌≤◌, ◌<◌, min}
use native.Mathlib.Omega.{arith}
use lib.ListN.{length, get_or, take, drop, length-drop}
use lib.Seq.{take_at, drop-append-add, drop-drop, length-take-le, get_or-drop}
use Rattle.rules.specs.Allotment.{Bid, no_bid, filled, Offer, is_in, keep, total, total_in, award, awards_from, awards, sum}
use Rattle.rules.specs.Cuts.{is_capped, cut_bids, cut_book}
use Rattle.rules.proofs.Kept.{total_cons}
use Rattle.rules.proofs.Sum.{award_out}
use Rattle.rules.proofs.Theorems.{no_award_above_bid}
use Rattle.rules.proofs.Cuts.{length-bids}
use Rattle.credit_limits.specs.Theorems.{ten_at, LentWithinCap}
use Rattle.credit_limits.proofs.Capped.{zero_not_capped}
use Rattle.credit_limits.proofs.Totals.{in_within_cap}
use Rattle.credit_limits.proofs.Places.{above_book}

-- an award is at most its bid, and nothing where the bid is out

abbrev in_amount : Offer → Bid → ℕ
in_amount o b = cond (is_in o b) b.amount 0

module _ (o : Offer) (bs : List Bid) where
  in_bounded : (before rest : List Bid)
      → ((k : ℕ) → k < length rest → get_or (awards_from o bs before rest) k 0 ≤ (get_or rest k no_bid).amount)
      → (k : ℕ)
      → get_or (awards_from o bs before rest) k 0 ≤ in_amount o (get_or rest k no_bid)
  unfolding awards_from
  in_bounded before [] h k = omega arith
  in_bounded before (b ∷ rest) h zero = go (is_in o b) refl
    where
      go : (t : Bool) → is_in o b ≡ t → award o bs before b ≤ cond t b.amount 0
      go true e = h 0 (omega arith)
      go false e = omega (arith, award_out o bs before b e)
  in_bounded before (b ∷ rest) h (suc k) = in_bounded (before ++ (b ∷ [])) rest (λ j l. h (suc j) (omega arith)) k

-- sums of any places

in_cons : (o : Offer) (b : Bid) (bs : List Bid) → total_in o (b ∷ bs) ≡ in_amount o b + total_in o bs
unfolding total_in
in_cons o b bs = total_cons (is_in o) b bs

in_none : (o : Offer) → in_amount o no_bid ≡ 0
unfolding is_in filled
in_none o = refl

in_nil : (o : Offer) (j : ℕ) → total_in o (take j []) ≡ 0
unfolding total_in keep total
in_nil o zero = refl
in_nil o (suc j) = refl

take_le : (o : Offer) (j : ℕ) (xs : List ℕ) (bs : List Bid)
    → ((k : ℕ) → get_or xs k 0 ≤ in_amount o (get_or bs k no_bid))
    → sum (take j xs) ≤ total_in o (take j bs)
unfolding sum
take_le o zero xs bs h = omega arith
take_le o (suc j) [] bs h = omega arith
take_le o (suc j) (x ∷ xs) [] h = omega (arith, h 0, in_none o, take_le o j xs [] (λ k. h (suc k)), in_nil o j)
take_le o (suc j) (x ∷ xs) (b ∷ bs) h = omega (arith, h 0, take_le o j xs bs (λ k. h (suc k)), in_cons o b (take j bs))

sum_le : (o : Offer) (j n : ℕ) (xs : List ℕ) (bs : List Bid)
    → ((k : ℕ) → get_or xs k 0 ≤ in_amount o (get_or bs k no_bid))
    → sum (take j (drop n xs)) ≤ total_in o (take j (drop n bs))
sum_le o j n xs bs h = take_le o j (drop n xs) (drop n bs) (λ k. rw (get_or-drop n xs k 0, get_or-drop n bs k no_bid) (h (n + k)))

-- the ten places of a code in the cut book

ten_at_lem : (o : Offer) (limits : List ℕ) (bs : List Bid)
    → 10 * length limits ≤ length bs
    → (k : ℕ)
    → is_capped o (get_or limits k 0) ≡ true
    → ten_at k (cut_book o limits bs) ≡ cut_bids o (get_or limits k 0) (ten_at k bs)
unfolding cut_book
ten_at_lem o [] bs h k c = absurd (false≢true (sym (zero_not_capped o) ∙ c))
ten_at_lem o (cap ∷ limits) bs h zero c =
    take_at (cut_bids o cap (take 10 bs)) (cut_book o limits (drop 10 bs)) 10 (length-bids o cap (take 10 bs) ∙ length-take-le 10 bs (omega arith))
ten_at_lem o (cap ∷ limits) bs h (suc k) c =
    ap (take 10) past_cut
    ∙ ten_at_lem o limits (drop 10 bs) (omega (arith, length-drop 10 bs)) k c
    ∙ ap (λ (l : List Bid). cut_bids o (get_or limits k 0) (take 10 l)) past
  where
    ten : length (cut_bids o cap (take 10 bs)) ≡ 10
    ten = length-bids o cap (take 10 bs) ∙ length-take-le 10 bs (omega arith)

    further : 10 * suc k ≡ length (cut_bids o cap (take 10 bs)) + 10 * k
    further = omega (arith, ten)

    past_cut : drop (10 * suc k) (cut_bids o cap (take 10 bs) ++ cut_book o limits (drop 10 bs)) ≡ drop (10 * k) (cut_book o limits (drop 10 bs))
    past_cut =
        ap (λ (n : ℕ). drop n (cut_bids o cap (take 10 bs) ++ cut_book o limits (drop 10 bs))) further
        ∙ drop-append-add (cut_bids o cap (take 10 bs)) (cut_book o limits (drop 10 bs)) (10 * k)

    past : drop (10 * k) (drop 10 bs) ≡ drop (10 * suc k) bs
    past = drop-drop (10 * k) 10 bs ∙ ap (λ (n : ℕ). drop n bs) (let e : 10 + 10 * k ≡ 10 * suc k = omega arith in e)

pub lent_within_cap : LentWithinCap
lent_within_cap o limits bs h above k c = omega (arith, lent, within)
  where
    cut : List Bid
    cut = cut_book o limits bs

    lent : sum (ten_at k (awards o cut)) ≤ total_in o (ten_at k cut)
    lent =
        sum_le o 10 (10 * k) (awards o cut) cut
        (unfold awards in in_bounded o cut [] cut (unfold awards in no_award_above_bid o cut (above_book o limits bs above)))

    within : total_in o (ten_at k cut) ≡ min (get_or limits k 0) (total_in o (ten_at k bs))
    within = ap (total_in o) (ten_at_lem o limits bs h k c) ∙ in_within_cap o (get_or limits k 0) (ten_at k bs) c
