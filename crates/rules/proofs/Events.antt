-- Every call keeps what opening gives, so that the bids never exceed condition 16's bound: 64 codes, ten places each, 15 digits in a place. Assumes nothing.
use mathlib.Core.Path.{◌≡◌, refl, sym, ap, ap₂, ◌∙◌, subst}
use mathlib.Core.Bool.{Bool, true, false, cond, ◌&&◌}
use mathlib.Core.List.Memᴰ
use mathlib.Core.List.{List, [], ◌∷◌, ◌++◌, map, Memᴰ}
use mathlib.Core.Option.{Option, none, some}
use Prim.Native.Nat.{ℕ, zero, suc, ◌+◌, ◌*◌, ◌^◌, ◌≤◌}
use native.Mathlib.Nat.{pow-le-pow_right}
use native.Mathlib.Omega.{arith}
use lib.Dec.{eqb, lit<}
use lib.ListN.{length, take, drop, get_or, replicate, length-take, length-map}
use borrow.Author.Tests.{le-ltb}
use Rattle.laws.proofs.Tests.{and_right}
use Rattle.digits.specs.Decimal.{all_digits, number_of}
use Rattle.digits.proofs.Reading.{below_length}
use Rattle.places.specs.Bids.{slash, formed_place, malformed, is_place, place_of, places_in}
use Rattle.envelope.specs.declared.application.Field.TheVariants.{Bids}
use Rattle.envelope.specs.Refusals.{unless_refused}
use Rattle.envelope.specs.Application.{bytes_of}
use Rattle.rules.specs.Allotment.{Bid, no_bid, total}
use Rattle.rules.specs.Opening.{Admission, Terms, rising, opening_refused, terms_of}
use Rattle.rules.specs.Receiving.{Reception, bid_of, bids_in, Error, Submission, submission, Entry, new_entry, new_book, takes, hold, returned_errors}
use Rattle.rules.specs.Calls.{State, Open, Closed, Announced, Revoked, Tender, in_state, no_tender, open_tender, bids_in_book, bids_exceed, receiving_refused, book_after, answer_with, answer_unless, receive, closing_refused, close, allotting_refused, allot, revoking_refused, revoke}
use Rattle.rules.specs.Events.{Event, receive_event, close_event, allotEvent, revokeEvent, next_tender, after_events, TenBids, entry_code, Kept}
use Rattle.rules.specs.ArrivalOrder.{receive_all, after_receptions, after_closing}
use Rattle.rules.specs.Theorems.{EventsKeep, KeptIsBounded, BidsNeverExceed}
use Rattle.rules.proofs.Opening.{few-codes, rising-codes}
use Rattle.rules.proofs.Cancelling.{ten-places}
use Rattle.rules.proofs.Rearranging.{mem_map}

-- the bids of a message
amount_below : (s : List ℕ) → (place_of s).amount.0 ≤ 999999999999999
unfolding place_of
amount_below s = go (is_place s) refl
  where
    go : (x : Bool) → is_place s ≡ x → (cond (is_place s) (formed_place (number_of (take 8 s)) (number_of (take 15 (drop 9 s)))) malformed).amount.0 ≤ 999999999999999
    go false e = rw e (omega arith)
    go true e =
        let d : all_digits (take 15 (drop 9 s)) ≡ true = unfold is_place in and_right (eqb (get_or s 8 0) slash && all_digits (take 8 s)) (all_digits (take 15 (drop 9 s))) e in
        let h = below_length (take 15 (drop 9 s)) d in
        let l : length (take 15 (drop 9 s)) ≤ 15 = rw length-take (omega arith) in
        let p : 10 ^ length (take 15 (drop 9 s)) ≤ 10 ^ 15 = pow-le-pow_right {n = 10} (lit< tt) {i = length (take 15 (drop 9 s))} {j = 15} l in
        rw e (omega arith)

places-within : (n : ℕ) (s : List ℕ) (b : Bid) → Memᴰ b (map bid_of (places_in n s)) → b.amount ≤ 999999999999999
unfolding places_in
places-within zero s b k = absurd (Memᴰ.not-nil k)
places-within (suc n) s b (Memᴰ.head e) = subst (λ (x : Bid). x.amount ≤ 999999999999999) (sym e) (amount_below (take 24 s))
places-within (suc n) s b (Memᴰ.tail k) = places-within n (drop 24 s) b k

submitted-ten : (t : Terms) (r : Reception) → TenBids (submission t r).bids
unfolding submission bids_in
submitted-ten t r = record { ten = ten-places t r; within = places-within 10 (bytes_of Bids r.message) }

-- a newly opened tender
zeros_within : (n : ℕ) (b : Bid) → Memᴰ b (replicate n no_bid) → b.amount ≤ 999999999999999
zeros_within zero b k = absurd (Memᴰ.not-nil k)
zeros_within (suc n) b (Memᴰ.head e) = subst (λ (x : Bid). x.amount ≤ 999999999999999) (sym e) (omega arith)
zeros_within (suc n) b (Memᴰ.tail k) = zeros_within n b k

new_codes : (codes : List ℕ) → map entry_code (new_book codes) ≡ codes
unfolding new_book new_entry
new_codes [] = refl
new_codes (c ∷ codes) = ap (λ (l : List ℕ). c ∷ l) (new_codes codes)

new_each : (codes : List ℕ) (e : Entry) → Memᴰ e (new_book codes) → TenBids e.bids
unfolding new_book new_entry
new_each codes e k =
    let w = mem_map new_entry codes k in
    subst (λ (x : Entry). TenBids x.bids) (sym w.2) (record { ten = refl; within = zeros_within 10 })

pub kept-opened : (m : List ℕ) (a : Admission) → Kept (open_tender m a).1
unfolding open_tender rising
kept-opened m a = go (opening_refused m a) refl
  where
    go : (o : Option ℕ) → opening_refused m a ≡ o → Kept (unless_refused o no_tender (record { terms = terms_of m a; state = Open; book = new_book a.codes }))
    go none e =
        record {
          rises = unfold terms_of in rising-codes m a e;
          entries = unfold terms_of in new_codes a.codes;
          few = unfold new_book in subst (λ (n : ℕ). n ≤ 64) (sym (length-map a.codes new_entry)) (few-codes m a e);
          each = new_each a.codes;
        }
    go (some n) e = record { rises = refl; entries = refl; few = omega arith; each = λ x k. absurd (Memᴰ.not-nil k) }

-- a book that takes a message
hold-code : (s : Submission) (e : Entry) → entry_code (hold s e) ≡ e.code
unfolding hold
hold-code s e = go (takes s e)
  where
    go : (x : Bool) → entry_code (cond x (record { code = e.code; held = some s.time; bids = s.bids }) e) ≡ e.code
    go true = refl
    go false = refl

held-codes : (s : Submission) (b : List Entry) → map entry_code (map (hold s) b) ≡ map entry_code b
held-codes s [] = refl
held-codes s (e ∷ b) = ap₂ (λ (c : ℕ) (l : List ℕ). c ∷ l) (hold-code s e) (held-codes s b)

hold-ten : (s : Submission) → TenBids s.bids → (e : Entry) → TenBids e.bids → TenBids (hold s e).bids
unfolding hold
hold-ten s k e h = go (takes s e)
  where
    go : (x : Bool) → TenBids (cond x (record { code = e.code; held = some s.time; bids = s.bids }) e).bids
    go true = k
    go false = h

-- each call on a tender that is kept
module _ (t : Tender) (k : Kept t) where
  pub kept-answered : (es : List Error) (r : Reception) → Kept (answer_with es t r).1
  unfolding answer_with book_after
  kept-answered [] r =
      let s = submission t.terms r in
      record {
        rises = k.rises;
        entries = held-codes s t.book ∙ k.entries;
        few = subst (λ (n : ℕ). n ≤ 64) (sym (length-map t.book (hold s))) k.few;
        each = λ e m.
            let w = mem_map (hold s) t.book m in
            subst (λ (x : Entry). TenBids x.bids) (sym w.2) (hold-ten s (submitted-ten t.terms r) w.0 (k.each w.0 w.1));
      }
  kept-answered (e ∷ es) r = record { rises = k.rises; entries = k.entries; few = k.few; each = k.each }

  pub kept-received : (r : Reception) → Kept (receive t r).1
  unfolding receive answer_unless
  kept-received r = go (receiving_refused t r)
    where
      go : (o : Option ℕ) → Kept (answer_unless o t r).1
      go none = kept-answered (returned_errors t.terms t.book r) r
      go (some n) = k

  pub kept_unless : (o : Option ℕ) (s : State) → Kept (unless_refused o t (in_state s t))
  kept_unless none s = record { rises = k.rises; entries = k.entries; few = k.few; each = k.each }
  kept_unless (some n) s = k

  pub kept-closed : (date time : ℕ) → Kept (close t date time).1
  unfolding close
  kept-closed date time = kept_unless (closing_refused t date time) Closed

  pub kept-allotted : Kept (allot t).1
  unfolding allot
  kept-allotted = kept_unless (allotting_refused t) Announced

  pub kept-revoked : Kept (revoke t).1
  unfolding revoke
  kept-revoked = kept_unless (revoking_refused t) Revoked

  kept_next : (e : Event) → Kept (next_tender t e)
  unfolding next_tender
  kept_next (receive_event r) = kept-received r
  kept_next (close_event date time) = kept-closed date time
  kept_next allotEvent = kept-allotted
  kept_next revokeEvent = kept-revoked

kept-after : (t : Tender) (es : List Event) → Kept t → Kept (after_events t es)
unfolding after_events
kept-after t [] k = k
kept-after t (e ∷ es) k = kept-after (next_tender t e) es (kept_next t k e)

pub events_keep : EventsKeep
events_keep m a es = kept-after (open_tender m a).1 es (kept-opened m a)

-- 64 entries of ten bids of fifteen digits
total-append : (xs ys : List Bid) → total (xs ++ ys) ≡ total xs + total ys
unfolding total
total-append [] ys = omega arith
total-append (x ∷ xs) ys = omega (arith, total-append xs ys)

total-within : (bs : List Bid) → ((b : Bid) → Memᴰ b bs → b.amount ≤ 999999999999999) → total bs ≤ 999999999999999 * length bs
unfolding total
total-within [] h = omega arith
total-within (b ∷ bs) h = let k = total-within bs (λ c m. h c (Memᴰ.tail m)) in let l = h b (Memᴰ.head refl) in omega arith

ten-total : (bs : List Bid) → TenBids bs → total bs ≤ 9999999999999990
ten-total bs k = let h = total-within bs k.within in let l : length bs ≡ 10 = k.ten in omega arith

book-total : (b : List Entry) → ((e : Entry) → Memᴰ e b → TenBids e.bids) → total (bids_in_book b) ≤ 9999999999999990 * length b
unfolding bids_in_book total
book-total [] each = omega arith
book-total (e ∷ b) each =
    omega (arith, total-append e.bids (bids_in_book b), ten-total e.bids (each e (Memᴰ.head refl)), book-total b (λ x m. each x (Memᴰ.tail m)))

pub kept_is_bounded : KeptIsBounded
kept_is_bounded t k = let h = book-total t.book k.each in let l = k.few in omega arith

not_exceeding : (t : Tender) → Kept t → bids_exceed t ≡ false
unfolding bids_exceed
not_exceeding t k = let h = kept_is_bounded t k in le-ltb 999999999999999999 (total (bids_in_book t.book)) (omega arith)

pub bids_never_exceed : BidsNeverExceed
bids_never_exceed m a es = not_exceeding (after_events (open_tender m a).1 es) (events_keep m a es)

-- receptions and a close_event are events
receptions_are_events : (t : Tender) (rs : List Reception) (es : List Event) → after_events t (map receive_event rs ++ es) ≡ after_events (receive_all t rs) es
unfolding after_events next_tender receive_all
receptions_are_events t [] es = refl
receptions_are_events t (r ∷ rs) es = receptions_are_events (receive t r).1 rs es

not_exceeding_after : (m : List ℕ) (a : Admission) (rs : List Reception) (es : List Event) → bids_exceed (after_events (after_receptions m a rs) es) ≡ false
not_exceeding_after m a rs es =
    subst (λ (x : Tender). bids_exceed x ≡ false) (receptions_are_events (open_tender m a).1 rs es) (bids_never_exceed m a (map receive_event rs ++ es))

pub open_not_exceeding : (m : List ℕ) (a : Admission) (rs : List Reception) → bids_exceed (after_receptions m a rs) ≡ false
unfolding after_events
open_not_exceeding m a rs = not_exceeding_after m a rs []

pub closed_not_exceeding : (m : List ℕ) (a : Admission) (rs : List Reception) (date time : ℕ) → bids_exceed (after_closing m a rs date time) ≡ false
unfolding after_events next_tender
closed_not_exceeding m a rs date time = not_exceeding_after m a rs (close_event date time ∷ [])
