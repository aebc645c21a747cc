-- Every call keeps the terms of an opened tender and its filled bids above zero. Assumes nothing.
use mathlib.Core.Path.{◌≡◌, refl, sym, subst}
use mathlib.Core.Bool.{Bool, true, false, cond, false≢true}
use mathlib.Core.List.Memᴰ
use mathlib.Core.List.{List, [], ◌∷◌, Memᴰ}
use mathlib.Core.Option.{Option, none, some}
use Prim.Native.Nat.{ℕ, zero, suc, ◌<◌}
use native.Mathlib.Omega.{arith}
use lib.ListN.{replicate}
use Rattle.envelope.specs.Refusals.{unless_refused}
use Rattle.rules.specs.Allotment.{Bid, no_bid, filled}
use Rattle.rules.specs.Opening.{Admission, Terms, opening_refused, terms_of}
use Rattle.rules.specs.Receiving.{Reception, Error, Entry, submission, new_entry, new_book, takes, hold, returned_errors}
use Rattle.rules.specs.Calls.{State, Open, Closed, Announced, Revoked, Tender, in_state, no_tender, open_tender, receiving_refused, book_after, answer_with, answer_unless, receive, closing_refused, close, allotting_refused, allot, revoking_refused, revoke}
use Rattle.rules.specs.Events.{Event, receive_event, close_event, allotEvent, revokeEvent, next_tender, after_events}
use Rattle.rules.proofs.Rearranging.{mem_map}
use Rattle.lent_limits.proofs.Minimum.{minimum_above_zero, taken_at_least_minimum}

-- bids that are above zero where their places are filled
abbrev pub AboveZero : List Bid → Type 0
AboveZero bs = (b : Bid) → Memᴰ b bs → filled b ≡ true → 0 < b.amount

-- a tender of these terms, with such bids only
pub record Lending (terms : Terms) (t : Tender) : Type 0 where
  pub same : t.terms ≡ terms
  pub above : (e : Entry) → Memᴰ e t.book → AboveZero e.bids

-- empty places are not filled
pub empty_above : (n : ℕ) → AboveZero (replicate n no_bid)
unfolding filled
empty_above zero b k f = absurd (Memᴰ.not-nil k)
empty_above (suc n) b (Memᴰ.head e) f = absurd (false≢true (subst (λ (x : Bid). filled x ≡ true) e f))
empty_above (suc n) b (Memᴰ.tail k) f = empty_above n b k f

-- a newly opened tender
new_above : (codes : List ℕ) (e : Entry) → Memᴰ e (new_book codes) → AboveZero e.bids
unfolding new_book new_entry
new_above codes e k = let w = mem_map new_entry codes k in subst (λ (x : Entry). AboveZero x.bids) (sym w.2) (empty_above 10)

opened : (m : List ℕ) (a : Admission) → opening_refused m a ≡ none → Lending (terms_of m a) (open_tender m a).1
unfolding open_tender
opened m a h =
    subst
    (λ (o : Option ℕ). Lending (terms_of m a) (unless_refused o no_tender (record { terms = terms_of m a; state = Open; book = new_book a.codes })))
    (sym h)
    (record { same = refl; above = new_above a.codes })

-- each call on such a tender, whose minimum is above zero
module _ (terms : Terms) (positive : 0 < terms.minimum) (t : Tender) (l : Lending terms t) where
  held_above : (r : Reception) (e : Entry) → AboveZero e.bids → AboveZero (hold (submission t.terms r) e).bids
  unfolding hold
  held_above r e h = go (takes (submission t.terms r) e) refl
    where
      enough : 0 < t.terms.minimum
      enough = subst (λ (x : Terms). 0 < x.minimum) (sym l.same) positive

      go : (x : Bool) → takes (submission t.terms r) e ≡ x
          → AboveZero (cond x (record { code = e.code; held = some (submission t.terms r).time; bids = (submission t.terms r).bids }) e).bids
      go true p b k f = omega (arith, enough, taken_at_least_minimum t.terms r e p b k f)
      go false p b k f = h b k f

  answered : (es : List Error) (r : Reception) → Lending terms (answer_with es t r).1
  unfolding answer_with book_after
  answered [] r =
      record {
        same = l.same;
        above = λ e m.
            let w = mem_map (hold (submission t.terms r)) t.book m in
            subst (λ (x : Entry). AboveZero x.bids) (sym w.2) (held_above r w.0 (l.above w.0 w.1));
      }
  answered (e ∷ es) r = record { same = l.same; above = l.above }

  received : (r : Reception) → Lending terms (receive t r).1
  unfolding receive answer_unless
  received r = go (receiving_refused t r)
    where
      go : (o : Option ℕ) → Lending terms (answer_unless o t r).1
      go none = answered (returned_errors t.terms t.book r) r
      go (some n) = l

  unless : (o : Option ℕ) (s : State) → Lending terms (unless_refused o t (in_state s t))
  unless none s = record { same = l.same; above = l.above }
  unless (some n) s = l

  next : (e : Event) → Lending terms (next_tender t e)
  unfolding next_tender close allot revoke
  next (receive_event r) = received r
  next (close_event date time) = unless (closing_refused t date time) Closed
  next allotEvent = unless (allotting_refused t) Announced
  next revokeEvent = unless (revoking_refused t) Revoked

after : (terms : Terms) → 0 < terms.minimum → (t : Tender) (es : List Event) → Lending terms t → Lending terms (after_events t es)
unfolding after_events
after terms p t [] l = l
after terms p t (e ∷ es) l = after terms p (next_tender t e) es (next terms p t l e)

pub events_lending : (m : List ℕ) (a : Admission) (es : List Event) → opening_refused m a ≡ none → Lending (terms_of m a) (after_events (open_tender m a).1 es)
events_lending m a es h = after (terms_of m a) (minimum_above_zero m a h) (open_tender m a).1 es (opened m a h)
