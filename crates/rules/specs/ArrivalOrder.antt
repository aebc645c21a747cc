-- Demand 3: the sum awarded on each bid does not depend on the order of arrival. Assumes nothing.
use Rattle.std.specs.Prelude.{◌≡◌, true, cond, ℕ, ◌≤◌, min, ltb, length}
use mathlib.Core.List.{List, [], ◌∷◌, ◌++◌, map, Memᴰ}
use Rattle.std.proofs.Math.Option.{Option, none, some}
use Rattle.calendar.specs.Calendar.{valid_date, valid_time, later}
use Rattle.rules.specs.Allotment.{Bid, keep, awards, sum, total_in}
use Rattle.rules.specs.Opening.{Admission, Terms, opening_refused, terms_of, offer_of}
use Rattle.rules.specs.Receiving.{Reception, Submission, submission, cancels, ten_zeros, is_from}
use Rattle.rules.specs.Calls.{Tender, reply_space, open_tender, receive, close, bids_taken, allot, allotment}

-- 'every list of receptions, refused ones included, .. each on the tender that the last one returned'
unfoldable pub receive_all : Tender → List Reception → Tender
receive_all t [] = t
receive_all t (r ∷ rs) = receive_all (receive t r).1 rs

-- 'and with reply space of at least 436 bytes'
abbrev pub EnoughSpace : List Reception → Type 0
EnoughSpace rs = (r : Reception) → Memᴰ r rs → reply_space ≤ length r.space

-- 'no two sound messages of one counterparty carry the same reference time with bids that differ at any place'
abbrev pub NoConflict : Terms → List Reception → Type 0
NoConflict t rs =
    (r s : Reception)
    → Memᴰ r rs
    → Memᴰ s rs
    → (submission t r).sound ≡ true
    → (submission t s).sound ≡ true
    → (submission t r).code ≡ (submission t s).code
    → (submission t r).time ≡ (submission t s).time
    → (submission t r).bids ≡ (submission t s).bids

-- 'every rearrangement of it'
pub data Rearranged {A : Type 0} : List A → List A → Type 0 where
  nothing : Rearranged [] []
  keep-first : {x : A} {xs ys : List A} → Rearranged xs ys → Rearranged (x ∷ xs) (x ∷ ys)
  swap_first : {x y : A} {xs : List A} → Rearranged (x ∷ y ∷ xs) (y ∷ x ∷ xs)
  and_then : {xs ys zs : List A} → Rearranged xs ys → Rearranged ys zs → Rearranged xs zs

-- 'closing at any time past the cut-off'
abbrev pub PastCutOff : Terms → ℕ → ℕ → Type 0
PastCutOff t date time = (valid_date date ≡ true) × (valid_time time ≡ true) × (later date time t.execution t.cut_off ≡ true)

-- 'from a newly opened tender': the tender after the receptions, and after closing
abbrev pub after_receptions : List ℕ → Admission → List Reception → Tender
after_receptions m a rs = receive_all (open_tender m a).1 rs

abbrev pub after_closing : List ℕ → Admission → List Reception → ℕ → ℕ → Tender
after_closing m a rs date time = (close (after_receptions m a rs) date time).1

-- 'its sound message with the latest reference time': one that no other is later than
unfoldable pub later_of : Submission → Option Submission → Option Submission
later_of s none = some s
later_of s (some n) = cond (ltb s.time n.time) (some n) (some s)

unfoldable pub latest : List Submission → Option Submission
latest [] = none
latest (s ∷ ss) = later_of s (latest ss)

-- 'those of its sound message with the latest reference time, or none if there is none or that one cancels': ten zeros are none
unfoldable pub bids_of_latest : Option Submission → List Bid
bids_of_latest none = ten_zeros
bids_of_latest (some s) = cond (cancels s) ten_zeros s.bids

-- 'the final bids: for each counterparty, read from its own messages alone'
unfoldable pub final_bids : ℕ → List Submission → List Bid
final_bids c ss = bids_of_latest (latest (keep (is_from c) ss))

-- the final bids of all counterparties, in book order
unfoldable pub all_final_bids : List ℕ → List Submission → List Bid
all_final_bids [] ss = []
all_final_bids (c ∷ codes) ss = final_bids c ss ++ all_final_bids codes ss

abbrev pub final_book : Terms → List Reception → List Bid
final_book t rs = all_final_bids t.admission.codes (map (submission t) rs)

-- what holds after the receptions and closing at a clock reading
pub record Settled (m : List ℕ) (a : Admission) (rs : List Reception) (date time : ℕ) (final : List Bid) : Type 0 where
  -- closing is not refused
  pub closes : (close (after_receptions m a rs) date time).0 ≡ none
  -- allotting is not refused
  pub allots : (allot (after_closing m a rs date time)).0 ≡ none
  -- 'They are document 01's for the final bids'
  pub awarded : (allot (after_closing m a rs date time)).2 ≡ allotment (terms_of m a) final

-- The demand, for every announcement, admitted list and limits that opening accepts
abbrev pub ArrivalOrder : Type 0
ArrivalOrder =
    (m : List ℕ) (a : Admission)
    → opening_refused m a ≡ none
    → (rs rearranged : List Reception)
    → EnoughSpace rs
    → NoConflict (terms_of m a) rs
    → Rearranged rs rearranged
    → (date time date₂ time₂ : ℕ)
    → PastCutOff (terms_of m a) date time
    → PastCutOff (terms_of m a) date₂ time₂
    -- awards and marginal rate are those of the final bids, and 'the same awards and the same marginal rate' after the rearrangement
    → Settled m a rs date time (final_book (terms_of m a) rs)
    × Settled m a rearranged date₂ time₂ (final_book (terms_of m a) rs)
    × ((allot (after_closing m a rearranged date₂ time₂)).2 ≡ (allot (after_closing m a rs date time)).2)
    -- 'The awards add up to the smaller of the amount offered and all final bids within the limit rate', as cut to the limits
    × (sum (allot (after_closing m a rs date time)).2.awards ≡ min (terms_of m a).offered (total_in (offer_of (terms_of m a)) (bids_taken (terms_of m a) (final_book (terms_of m a) rs))))

-- any sound message of a counterparty that no other is later than gives its final bids
abbrev pub AnyLatest : Type 0
AnyLatest =
    (t : Terms) (c : ℕ) (rs : List Reception)
    → NoConflict t rs
    → (r : Reception)
    → Memᴰ r rs
    → is_from c (submission t r) ≡ true
    → ((s : Reception) → Memᴰ s rs → is_from c (submission t s) ≡ true → (submission t s).time ≤ (submission t r).time)
    → final_bids c (map (submission t) rs) ≡ (submission t r).bids
