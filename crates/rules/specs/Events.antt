-- Events of any kind on a tender, and what holds of every tender that they leave. Assumes nothing.
use Rattle.std.specs.Prelude.{◌≡◌, true, ℕ, ◌≤◌, length}
use mathlib.Core.List.{List, [], ◌∷◌, map, Memᴰ}
use Rattle.rules.specs.Allotment.{Bid}
use Rattle.rules.specs.Opening.{rising}
use Rattle.rules.specs.Receiving.{Reception, Entry}
use Rattle.rules.specs.Calls.{Tender, receive, close, allot, revoke}

-- 'An opened tender takes an event'
pub data Event : Type 0 where
  receive_event : Reception → Event
  close_event : ℕ → ℕ → Event
  allotEvent revokeEvent : Event

-- '.. and becomes the next tender', after a refusal too
unfoldable pub next_tender : Tender → Event → Tender
next_tender t (receive_event r) = (receive t r).1
next_tender t (close_event date time) = (close t date time).1
next_tender t allotEvent = (allot t).1
next_tender t revokeEvent = (revoke t).1

-- the tender after a list of events
unfoldable pub after_events : Tender → List Event → Tender
after_events t [] = t
after_events t (e ∷ es) = after_events (next_tender t e) es

-- 'ten bids', each amount of at most fifteen digits
pub record TenBids (bs : List Bid) : Type 0 where
  pub ten : length bs ≡ 10
  pub within : (b : Bid) → Memᴰ b bs → b.amount ≤ 999999999999999

abbrev pub entry_code : Entry → ℕ
entry_code e = e.code

-- 'what holds of all those may be relied on': the codes rise, the book has an entry for each of them, at most 64, and each entry ten bids
pub record Kept (t : Tender) : Type 0 where
  pub rises : rising t.terms.admission.codes ≡ true
  pub entries : map entry_code t.book ≡ t.terms.admission.codes
  pub few : length t.book ≤ 64
  pub each : (e : Entry) → Memᴰ e t.book → TenBids e.bids
