-- Demand 3, from what the book holds and from the sum of the awards. Assumes nothing.
use mathlib.Core.Path.{◌≡◌, refl, sym, ◌∙◌, ap, ap₂, subst}
use mathlib.Core.Bool.{Bool, true, false, cond, ◌&&◌, ◌||◌, and-false}
use mathlib.Core.List.{List, [], ◌∷◌, ◌++◌, map, Memᴰ}
use mathlib.Core.Option.{none}
use Prim.Native.Nat.{ℕ, ◌+◌, ◌-◌, ◌≤◌}
use lib.Dec.{eqb}
use lib.ListN.{length}
use borrow.Author.Tests.{le-ltb}
use Rattle.calendar.specs.Calendar.{valid_date, valid_time}
use Rattle.laws.proofs.Tests.{or_left, or_right}
use Rattle.layout.specs.Fields.{readable}
use Rattle.envelope.specs.Refusals.{first_holding}
use Rattle.envelope.specs.Application.{layout6_g1}
use Rattle.rules.specs.Allotment.{Bid, awards, sum}
use Rattle.rules.specs.Opening.{Admission, Terms, any, opening_refused, terms_of}
use Rattle.rules.specs.Receiving.{Reception, Error, when, errors, is_empty, is_sound, Submission, submission, Entry, new_book, is_after, is_from, takes, hold, returned_errors}
use Rattle.rules.specs.Calls.{Open, Closed, Tender, in_state, open_tender, is_revoked, is_over, clock_invalid, reply_space, space_short, before_cut_off, is_open, is_announced, bids_in_book, bids_exceed, receiving_refused, answer_with, book_after, answer_unless, receive, closing_refused, close, allotting_refused, Allotted, allotment, allot}
use Rattle.rules.specs.ArrivalOrder.{receive_all, EnoughSpace, NoConflict, Rearranged, PastCutOff, after_receptions, after_closing, final_bids, all_final_bids, final_book, Settled, ArrivalOrder, AnyLatest}
use Rattle.rules.proofs.Links.{allotment-sum}
use Rattle.rules.proofs.Rearranging.{mem_map, map_mem, rearranged_mem, rearranged_back, rearranged_map}
use Rattle.rules.proofs.Events.{closed_not_exceeding}
use Rattle.rules.proofs.Cancelling.{ten-places}
use Rattle.rules.proofs.Book.{Agreeing, TenBids, hold_all_in, final_entry, book_final, book_rearranged, final_any}

-- a message that no entry takes leaves the book
none_taken : (s : Submission) (b : List Entry) → any (takes s) b ≡ false → map (hold s) b ≡ b
unfolding any hold
none_taken s [] h = refl
none_taken s (e ∷ b) h =
    ap₂ (λ (x : Entry) (xs : List Entry). x ∷ xs) (rw (or_left (takes s e) (any (takes s) b) h)) (none_taken s b (or_right (takes s e) (any (takes s) b) h))

unsound_takes : (s : Submission) (e : Entry) → s.sound ≡ false → takes s e ≡ false
unfolding takes is_from
unsound_takes s e h = ap (λ (x : Bool). x && eqb s.code e.code && is_after s.time e.held) h

unsound_taken : (s : Submission) (b : List Entry) → s.sound ≡ false → any (takes s) b ≡ false
unfolding any
unsound_taken s [] h = refl
unsound_taken s (e ∷ b) h = ap₂ (λ (x y : Bool). x || y) (unsound_takes s e h) (unsound_taken s b h)

unsound : (s : Submission) (b : List Entry) → s.sound ≡ false → map (hold s) b ≡ b
unsound s b h = none_taken s b (unsound_taken s b h)

-- one reception at an open tender, with space enough: the book holds the message, if it is one to hold
abbrev open_with : Terms → List Entry → Tender
open_with t b = record { terms = t; state = Open; book = b }

none_left : is_empty {A = Error} [] ≡ true
unfolding is_empty
none_left = refl

some_left : (e : Error) (es : List Error) → is_empty (e ∷ es) ≡ false
unfolding is_empty
some_left e es = refl

-- the errors with which a message is returned
returned_empty : (t : Terms) (b : List Entry) (r : Reception) (x y : Bool) → is_empty (errors t r) ≡ x → any (takes (submission t r)) b ≡ y → is_empty (returned_errors t b r) ≡ (x && y)
unfolding returned_errors when
returned_empty t b r true true e f = rw (e, f) none_left
returned_empty t b r true false e f = rw (e, f) (some_left _ [])
returned_empty t b r false y e f = ap is_empty (rw e refl) ∙ e

-- the tender after an answer
answer-tender : (es : List Error) (t : Terms) (b : List Entry) (r : Reception) → (answer_with es (open_with t b) r).1 ≡ cond (is_empty es) (open_with t (map (hold (submission t r)) b)) (open_with t b)
unfolding answer_with book_after is_empty
answer-tender [] t b r = refl
answer-tender (e ∷ es) t b r = refl

-- one reception at an open tender, with space enough: the book holds the message, if it is one to hold
module _ (t : Terms) (b : List Entry) (r : Reception) where
  not_sound : (submission t r).sound ≡ false → open_with t b ≡ open_with t (map (hold (submission t r)) b)
  not_sound h = ap (open_with t) (sym (unsound (submission t r) b h))

  sound_is : (x y z : Bool) → readable layout6_g1 r.message ≡ x → valid_date r.date && valid_time r.time ≡ y → is_empty (errors t r) ≡ z → (submission t r).sound ≡ (x && y && z)
  unfolding submission is_sound
  sound_is x y z p q s = ap₂ (λ (u v : Bool). u && v) (ap₂ (λ (u v : Bool). u && v) p q) s

  answered : (x y : Bool) → is_empty (errors t r) ≡ x → any (takes (submission t r)) b ≡ y → readable layout6_g1 r.message ≡ true → valid_date r.date && valid_time r.time ≡ true
      → (answer_with (returned_errors t b r) (open_with t b) r).1 ≡ open_with t (map (hold (submission t r)) b)
  answered true true e f p q = answer-tender (returned_errors t b r) t b r ∙ rw (returned_empty t b r true true e f)
  answered true false e f p q = answer-tender (returned_errors t b r) t b r ∙ rw (returned_empty t b r true false e f) (ap (open_with t) (sym (none_taken (submission t r) b f)))
  answered false y e f p q = answer-tender (returned_errors t b r) t b r ∙ rw (returned_empty t b r false y e f) (not_sound (sound_is true true false p q e))

  unless_refused_lem : (x y : Bool) → readable layout6_g1 r.message ≡ x → valid_date r.date && valid_time r.time ≡ y → reply_space ≤ length r.space
      → (receive (open_with t b) r).1 ≡ open_with t (map (hold (submission t r)) b)
  unfolding receive receiving_refused answer_unless first_holding is_revoked is_over clock_invalid space_short
  unless_refused_lem x false p q l = rw q (not_sound (sound_is x false (is_empty (errors t r)) p q refl ∙ ap (λ (u : Bool). u && is_empty (errors t r)) (and-false x)))
  unless_refused_lem false true p q l = rw (q, le-ltb (length r.space) reply_space l, p) (not_sound (sound_is false true (is_empty (errors t r)) p q refl))
  unless_refused_lem true true p q l = rw (q, le-ltb (length r.space) reply_space l, p) (answered (is_empty (errors t r)) (any (takes (submission t r)) b) refl refl p q)

  pub received-tender : reply_space ≤ length r.space → (receive (open_with t b) r).1 ≡ open_with t (map (hold (submission t r)) b)
  received-tender l = unless_refused_lem (readable layout6_g1 r.message) (valid_date r.date && valid_time r.time) refl refl l

-- a list of receptions: the book holds their messages one after the other
received-all : (t : Terms) (rs : List Reception) (b : List Entry) → EnoughSpace rs → receive_all (open_with t b) rs ≡ open_with t (hold_all_in (map (submission t) rs) b)
unfolding receive_all hold_all_in
received-all t [] b h = refl
received-all t (r ∷ rs) b h =
    ap (λ (x : Tender). receive_all x rs) (received-tender t b r (h r (Memᴰ.head refl))) ∙ received-all t rs (map (hold (submission t r)) b) (λ s k. h s (Memᴰ.tail k))

-- the bids of the book are the final bids
bids_final : (codes : List ℕ) (ss : List Submission) → bids_in_book (map (final_entry ss) codes) ≡ all_final_bids codes ss
unfolding bids_in_book all_final_bids final_entry
bids_final [] ss = refl
bids_final (c ∷ codes) ss = ap (λ (l : List Bid). final_bids c ss ++ l) (bids_final codes ss)

ten-each : (t : Terms) (rs : List Reception) → TenBids (map (submission t) rs)
ten-each t rs m k = let w = mem_map (submission t) rs k in ap (λ (s : Submission). length s.bids) w.2 ∙ ten-places t w.0

bids-after : (t : Terms) (rs : List Reception) → bids_in_book (hold_all_in (map (submission t) rs) (new_book t.admission.codes)) ≡ final_book t rs
bids-after t rs = ap bids_in_book (book_final t.admission.codes (map (submission t) rs) (ten-each t rs)) ∙ bids_final t.admission.codes (map (submission t) rs)

-- what an accepted opening gives
opened : (m : List ℕ) (a : Admission) → opening_refused m a ≡ none → (open_tender m a).1 ≡ open_with (terms_of m a) (new_book a.codes)
unfolding open_tender
opened m a h = rw h

-- allotting a closed tender
pub allotting-accepted : (t : Tender) → bids_exceed (in_state Closed t) ≡ false → allotting_refused (in_state Closed t) ≡ none
unfolding allotting_refused first_holding is_revoked is_open is_announced
allotting-accepted t l = rw l

-- closing past the cut-off
module _ (t : Terms) (b : List Entry) (date time : ℕ) (past : PastCutOff t date time) where
  closing-accepted : closing_refused (open_with t b) date time ≡ none
  unfolding closing_refused first_holding is_revoked is_over clock_invalid before_cut_off
  closing-accepted = rw (past.0, past.1, past.2)

  closed : (close (open_with t b) date time).1 ≡ in_state Closed (open_with t b)
  unfolding close
  closed = rw closing-accepted

-- the same receptions in another order
module _ (t : Terms) (rs : List Reception) (agree : NoConflict t rs) where
  agreeing : Agreeing (map (submission t) rs)
  agreeing m n hm hn = go (mem_map (submission t) rs hm) (mem_map (submission t) rs hn)
    where
      go : (r : Reception) × Memᴰ r rs × (m ≡ submission t r) → (s : Reception) × Memᴰ s rs × (n ≡ submission t s)
          → m.sound ≡ true → n.sound ≡ true → m.code ≡ n.code → m.time ≡ n.time → m.bids ≡ n.bids
      go v w = rw (v.2, w.2) (agree v.0 w.0 v.1 w.1)

  pub same_final : (rearranged : List Reception) → Rearranged rs rearranged → final_book t rs ≡ final_book t rearranged
  same_final rearranged p =
      sym (bids-after t rs)
      ∙ ap bids_in_book (book_rearranged t.admission.codes (map (submission t) rs) (map (submission t) rearranged) (ten-each t rs) agreeing (rearranged_map (submission t) p))
      ∙ bids-after t rearranged

-- what holds after the receptions
module _ (m : List ℕ) (a : Admission) (h : opening_refused m a ≡ none) (rs : List Reception) (room : EnoughSpace rs) where
  pub book : List Entry
  book = hold_all_in (map (submission (terms_of m a)) rs) (new_book a.codes)

  pub after_is : after_receptions m a rs ≡ open_with (terms_of m a) book
  unfolding book
  after_is = ap (λ (x : Tender). receive_all x rs) (opened m a h) ∙ received-all (terms_of m a) rs (new_book a.codes) room

  pub bids_are : bids_in_book book ≡ final_book (terms_of m a) rs
  unfolding book terms_of
  bids_are = bids-after (terms_of m a) rs

-- and after closing
module _ (m : List ℕ) (a : Admission) (h : opening_refused m a ≡ none) (rs : List Reception) (room : EnoughSpace rs) (date time : ℕ) (past : PastCutOff (terms_of m a) date time) where
  abbrev held : List Entry
  held = book m a h rs room

  closed_is : after_closing m a rs date time ≡ in_state Closed (open_with (terms_of m a) held)
  closed_is = ap (λ (x : Tender). (close x date time).1) (after_is m a h rs room) ∙ closed (terms_of m a) held date time past

  accepted : allotting_refused (in_state Closed (open_with (terms_of m a) held)) ≡ none
  accepted = allotting-accepted (open_with (terms_of m a) held) (subst (λ (x : Tender). bids_exceed x ≡ false) closed_is (closed_not_exceeding m a rs date time))

  settled : Settled m a rs date time (final_book (terms_of m a) rs)
  unfolding close allot
  settled =
      record {
        closes = ap (λ (x : Tender). closing_refused x date time) (after_is m a h rs room) ∙ closing-accepted (terms_of m a) held date time past;
        allots = ap allotting_refused closed_is ∙ accepted;
        awarded = ap (λ (x : Tender). (allot x).2) closed_is ∙ rw (accepted, bids_are m a h rs room);
      }

pub any-latest : AnyLatest
any-latest t c rs agree r k f last =
    final_any c (map (submission t) rs) (ten-each t rs) (agreeing t rs agree) (submission t r) (map_mem (submission t) rs k) f
    (λ n hn hf. bound n (mem_map (submission t) rs hn) hf)
  where
    bound : (n : Submission) → (s : Reception) × Memᴰ s rs × (n ≡ submission t s) → is_from c n ≡ true → n.time ≤ (submission t r).time
    bound n w hf = subst (λ (x : Submission). x.time ≤ (submission t r).time) (sym w.2) (last w.0 w.1 (subst (λ (x : Submission). is_from c x ≡ true) w.2 hf))

pub arrival_order : ArrivalOrder
arrival_order m a h rs rearranged room agree p date time date₂ time₂ past past₂ =
    let t = terms_of m a in
    let x = settled m a h rs room date time past in
    let y = settled m a h rearranged (λ r k. room r (rearranged_mem (rearranged_back p) k)) date₂ time₂ past₂ in
    let z : Settled m a rearranged date₂ time₂ (final_book t rs) = subst (Settled m a rearranged date₂ time₂) (sym (same_final t rs agree rearranged p)) y in
    (x, z, z.awarded ∙ sym x.awarded, ap (λ (y : Allotted). sum y.awards) x.awarded ∙ allotment-sum t (final_book t rs))
