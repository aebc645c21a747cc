-- From the bids of a book to what allotting gives: what each link is of the offer, how long it is, and that 640 places give the same. Assumes nothing.
use mathlib.Core.Path.{◌≡◌, refl, sym, ap, ◌∙◌}
use mathlib.Core.List.{List, [], ◌∷◌, ◌++◌}
use Prim.Native.Nat.{ℕ, zero, suc, ◌+◌, ◌-◌, min}
use native.Mathlib.Omega.{arith}
use lib.ListN.{length, replicate}
use Rattle.rules.specs.Allotment.{Bid, no_bid, Offer, awards_from, awards, sum, marginal_rate, total_in}
use Rattle.rules.specs.Cuts.{cut_book}
use Rattle.rules.specs.Opening.{Terms, offer_of}
use Rattle.rules.specs.Calls.{bids_taken, bid_awards, awards_given, marginal_given, in640, allotment}
use Rattle.rules.specs.Theorems.{places640, In640Places}
use Rattle.rules.proofs.Sum.{awards-sum}
use Rattle.rules.proofs.Absent.{awards_absent, marginal_absent}
use Rattle.rules.proofs.Cuts.{length-book, book_absent}

-- as many awards as bids
length_from : (o : Offer) (bs before rest : List Bid) → length (awards_from o bs before rest) ≡ length rest
unfolding awards_from
length_from o bs before [] = refl
length_from o bs before (b ∷ rest) = ap suc (length_from o bs (before ++ (b ∷ [])) rest)

pub length-awards : (o : Offer) (bs : List Bid) → length (awards o bs) ≡ length bs
unfolding awards
length-awards o bs = length_from o bs [] bs

-- zeros at the end add nothing
zeros_add : (xs : List ℕ) (n : ℕ) → sum (xs ++ replicate n 0) ≡ sum xs
unfolding sum
zeros_add [] zero = refl
zeros_add [] (suc n) = omega (arith, zeros_add [] n)
zeros_add (x ∷ xs) n = ap (λ (k : ℕ). x + k) (zeros_add xs n)

module _ (t : Terms) (bs : List Bid) where
  -- the awards and the marginal rate are those of the bids taken
  pub given_of_offer : awards_given t bs ≡ awards (offer_of t) (bids_taken t bs)
  unfolding awards_given bid_awards
  given_of_offer = refl

  pub marginal_of_offer : marginal_given t bs ≡ marginal_rate (offer_of t) (bids_taken t bs)
  unfolding marginal_given
  marginal_of_offer = refl

  -- what they add up to
  pub allotment-sum : sum (allotment t bs).awards ≡ min t.offered (total_in (offer_of t) (bids_taken t bs))
  unfolding allotment in640
  allotment-sum =
      zeros_add (awards_given t bs) (640 - length (awards_given t bs)) ∙ ap sum given_of_offer ∙ awards-sum (offer_of t) (bids_taken t bs)

pub in_640_places : In640Places
unfolding bids_taken bid_awards awards_given marginal_given in640
in_640_places t bs =
    let o = offer_of t in
    let cut = cut_book o t.admission.limits bs in
    let k = 640 - length bs in
    let as_many : length (awards o cut) ≡ length bs = length-awards o cut ∙ length-book o t.admission.limits bs in
    let cut_is : cut_book o t.admission.limits (places640 bs) ≡ cut ++ replicate k no_bid = book_absent o t.admission.limits bs k in
    let padded : awards o (cut_book o t.admission.limits (places640 bs)) ≡ awards o cut ++ replicate (640 - length (awards o cut)) 0 = ap (awards o) cut_is ∙ awards_absent o cut k ∙ ap (λ (n : ℕ). awards o cut ++ replicate (640 - n) 0) (sym as_many) in (
      cut_is ∙ ap (λ (n : ℕ). cut ++ replicate (640 - n) no_bid) (sym (length-book o t.admission.limits bs)),
      padded,
      padded,
      ap (marginal_rate o) cut_is ∙ marginal_absent o cut k,
    )
