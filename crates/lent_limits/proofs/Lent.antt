-- No counterparty is lent more than its credit limit, whatever events a tender takes. Assumes nothing.
use mathlib.Core.Path.{◌≡◌, refl, sym, ap, ◌∙◌, subst}
use mathlib.Core.Bool.{true}
use mathlib.Core.List.Memᴰ
use mathlib.Core.List.{List, [], ◌∷◌, ◌++◌, Memᴰ}
use mathlib.Core.Option.{Option, none, some}
use Prim.Native.Nat.{ℕ, zero, suc, ◌*◌, ◌-◌, ◌≤◌}
use native.Mathlib.Omega.{arith}
use lib.ListN.{length, get_or, take, drop, replicate, length-append, length-map}
use Rattle.envelope.specs.Refusals.{unless_refused}
use Rattle.rules.specs.Allotment.{Bid, no_bid, awards, sum}
use Rattle.rules.specs.Cuts.{is_capped, cut_book}
use Rattle.rules.specs.Opening.{Terms, terms_of, offer_of}
use Rattle.rules.specs.Receiving.{Entry}
use Rattle.rules.specs.Calls.{Tender, open_tender, bids_in_book, bids_taken, not_allotted, allotting_refused, allotment, allot}
use Rattle.rules.specs.Events.{after_events, TenBids, entry_code, Kept}
use Rattle.rules.specs.Theorems.{places640}
use Rattle.rules.proofs.Opening.{as_many_limits}
use Rattle.rules.proofs.Events.{events_keep}
use Rattle.rules.proofs.Links.{given_of_offer, in_640_places}
use Rattle.credit_limits.specs.Theorems.{ten_at}
use Rattle.credit_limits.proofs.Lent.{lent_within_cap}
use Rattle.lent_limits.specs.Theorems.{LentWithinLimits}
use Rattle.lent_limits.proofs.Events.{AboveZero, Lending, empty_above, events_lending}

-- where allotting is refused nobody is lent anything
zeros_sum : (j n m : ℕ) → sum (take j (drop n (replicate m 0))) ≡ 0
unfolding sum
zeros_sum zero n m = refl
zeros_sum (suc j) zero zero = refl
zeros_sum (suc j) zero (suc m) = omega (arith, zeros_sum j zero m)
zeros_sum (suc j) (suc n) zero = refl
zeros_sum (suc j) (suc n) (suc m) = zeros_sum (suc j) n m

-- bids above zero in one list and another
append_above : (xs ys : List Bid) → AboveZero xs → AboveZero ys → AboveZero (xs ++ ys)
append_above [] ys f g b k = g b k
append_above (x ∷ xs) ys f g b (Memᴰ.head e) = f b (Memᴰ.head e)
append_above (x ∷ xs) ys f g b (Memᴰ.tail k) = append_above xs ys (λ c m. f c (Memᴰ.tail m)) g b k

book_above : (es : List Entry) → ((e : Entry) → Memᴰ e es → AboveZero e.bids) → AboveZero (bids_in_book es)
unfolding bids_in_book
book_above [] h b k = absurd (Memᴰ.not-nil k)
book_above (e ∷ es) h b k = append_above e.bids (bids_in_book es) (h e (Memᴰ.head refl)) (book_above es (λ x m. h x (Memᴰ.tail m))) b k

-- ten places a code
book-length : (es : List Entry) → ((e : Entry) → Memᴰ e es → TenBids e.bids) → length (bids_in_book es) ≡ 10 * length es
unfolding bids_in_book
book-length [] h = refl
book-length (e ∷ es) h =
    let ten : length e.bids ≡ 10 = (h e (Memᴰ.head refl)).ten in
    omega (arith, length-append e.bids (bids_in_book es), ten, book-length es (λ x m. h x (Memᴰ.tail m)))

-- a tender with as many limits as codes and its filled bids above zero
module _ (t : Tender) (kept : Kept t) (as_many : length t.terms.admission.limits ≡ length t.terms.admission.codes)
    (above : (e : Entry) → Memᴰ e t.book → AboveZero e.bids) (k : ℕ)
    (capped : is_capped (offer_of t.terms) (get_or t.terms.admission.limits k 0) ≡ true) where
  abbrev bids : List Bid
  bids = bids_in_book t.book

  abbrev limits : List ℕ
  limits = t.terms.admission.limits

  as_many_entries : length limits ≡ length t.book
  as_many_entries = as_many ∙ ap length (sym kept.entries) ∙ length-map t.book entry_code

  enough_places : 10 * length limits ≤ length (places640 bids)
  enough_places = omega (arith, as_many_entries, book-length t.book kept.each, length-append bids (replicate (640 - length bids) no_bid))

  -- the awards in 640 places are those of the bids in 640 places
  awards_640 : (allotment t.terms bids).awards ≡ awards (offer_of t.terms) (cut_book (offer_of t.terms) limits (places640 bids))
  unfolding allotment bids_taken
  awards_640 = sym (in_640_places t.terms bids).2 ∙ given_of_offer t.terms (places640 bids)

  allotted : sum (ten_at k (allotment t.terms bids).awards) ≤ get_or limits k 0
  allotted =
      subst
      (λ (xs : List ℕ). sum (ten_at k xs) ≤ get_or limits k 0)
      (sym awards_640)
      (lent_within_cap (offer_of t.terms) limits (places640 bids) enough_places
      (append_above bids (replicate (640 - length bids) no_bid) (book_above t.book above) (empty_above (640 - length bids))) k capped)

  lent : sum (ten_at k (allot t).2.awards) ≤ get_or limits k 0
  unfolding allot
  lent = go (allotting_refused t)
    where
      go : (o : Option ℕ) → sum (ten_at k (unless_refused o not_allotted (allotment t.terms bids)).awards) ≤ get_or limits k 0
      go none = allotted
      go (some n) = omega (arith, zeros_sum 10 (10 * k) 640)

pub lent_within_limits : LentWithinLimits
unfolding terms_of
lent_within_limits m a es k h capped =
    subst (λ (x : Terms). sum (ten_at k (allot t).2.awards) ≤ get_or x.admission.limits k 0) l.same
    (lent t (events_keep m a es)
    (subst (λ (x : Terms). length x.admission.limits ≡ length x.admission.codes) (sym l.same) (as_many_limits m a h)) l.above k
    (subst (λ (x : Terms). is_capped (offer_of x) (get_or x.admission.limits k 0) ≡ true) (sym l.same) capped))
  where
    t : Tender
    t = after_events (open_tender m a).1 es

    l : Lending (terms_of m a) t
    l = events_lending m a es h
