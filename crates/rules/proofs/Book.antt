-- What the book holds after a list of receptions: of each code the latest sound message, in whatever order they came. Assumes nothing.
use mathlib.Core.Path.{◌≡◌, refl, sym, ◌∙◌, ap, subst}
use mathlib.Core.Logic.{◌⊎◌, inl, inr}
use mathlib.Core.Bool.{Bool, true, false, not, ◌&&◌, cond}
use mathlib.Core.List.{List, [], ◌∷◌, map, Memᴰ}
use mathlib.Core.Option.{Option, none, some}
use Prim.Native.Nat.{ℕ, ◌≤◌}
use native.Mathlib.Omega.{arith}
use lib.Dec.{ltb, eqb}
use lib.ListN.{length}
use borrow.Author.Tests.{ltb-true, ltb-false, eqb-true}
use Rattle.laws.proofs.Tests.{and_left, and_right}
use Rattle.rules.specs.Allotment.{Bid, filled, keep}
use Rattle.rules.specs.Opening.{any}
use Rattle.rules.specs.Receiving.{Submission, cancels, Entry, ten_zeros, new_entry, new_book, is_after, is_from, takes, hold}
use Rattle.rules.specs.ArrivalOrder.{Rearranged, nothing, keep-first, later_of, latest, bids_of_latest, final_bids}
use Rattle.rules.proofs.Kept.{mem_keep, keep_mem}
use Rattle.rules.proofs.Rearranging.{rearranged_back, rearranged_mem}
use Rattle.rules.proofs.Cancelling.{latest-bids}

-- messages of one code and time have the same bids
abbrev pub Agreeing : List Submission → Type 0
Agreeing ms =
    (m n : Submission) → Memᴰ m ms → Memᴰ n ms → m.sound ≡ true → n.sound ≡ true → m.code ≡ n.code → m.time ≡ n.time
    → m.bids ≡ n.bids

-- each message has ten bids
abbrev pub TenBids : List Submission → Type 0
TenBids ms = (m : Submission) → Memᴰ m ms → length m.bids ≡ 10

-- messages held one after the other
unfoldable pub hold_all_in : List Submission → List Entry → List Entry
hold_all_in [] b = b
hold_all_in (m ∷ ms) b = hold_all_in ms (map (hold m) b)

-- the book is held entry by entry

unfoldable pub hold_all : List Submission → Entry → Entry
hold_all [] s = s
hold_all (m ∷ ms) s = hold_all ms (hold m s)

map_id : (b : List Entry) → b ≡ map (λ s. s) b
map_id [] = refl
map_id (s ∷ b) = ap {B = List Entry} (λ r. s ∷ r) (map_id b)

map-map : (f g : Entry → Entry) (b : List Entry) → map f (map g b) ≡ map (λ s. f (g s)) b
map-map f g [] = refl
map-map f g (s ∷ b) = ap {B = List Entry} (λ r. f (g s) ∷ r) (map-map f g b)

entry_by_entry : (ms : List Submission) (b : List Entry) → hold_all_in ms b ≡ map (hold_all ms) b
unfolding hold_all_in hold_all
entry_by_entry [] b = map_id b
entry_by_entry (m ∷ ms) b = entry_by_entry ms (map (hold m) b) ∙ map-map (hold_all ms) (hold m) b

-- one entry

pub hold_other : (m : Submission) (s : Entry) → is_from s.code m ≡ false → hold m s ≡ s
unfolding hold takes
hold_other m s e = rw e

module _ (c : ℕ) (bs : List Bid) (m n : Submission) (fm : is_from c m ≡ true) (fn : is_from c n ≡ true) where
  hold_two_some : (h : ℕ) (x y z : Bool) → ltb h m.time ≡ x → ltb h n.time ≡ y → ltb m.time n.time ≡ z
      → hold n (hold m (record { code = c; held = some h; bids = bs }))
      ≡ cond (ltb m.time n.time) (hold n (record { code = c; held = some h; bids = bs })) (hold m (record { code = c; held = some h; bids = bs }))
  unfolding hold takes is_after
  hold_two_some h true true true ex ey ez = rw (fm, ex, fn, ez, ey)
  hold_two_some h true true false ex ey ez = rw (fm, ex, fn, ez)
  hold_two_some h true false true ex ey ez = absurd (omega (arith, ltb-true, ltb-false))
  hold_two_some h true false false ex ey ez = rw (fm, ex, fn, ez)
  hold_two_some h false true true ex ey ez = rw (fm, ex, fn, ez, ey)
  hold_two_some h false true false ex ey ez = absurd (omega (arith, ltb-true, ltb-false))
  hold_two_some h false false true ex ey ez = rw (fm, ex, fn, ez, ey)
  hold_two_some h false false false ex ey ez = rw (fm, ex, fn, ez, ey)

  hold_two : (h : Option ℕ)
      → hold n (hold m (record { code = c; held = h; bids = bs }))
      ≡ cond (ltb m.time n.time) (hold n (record { code = c; held = h; bids = bs })) (hold m (record { code = c; held = h; bids = bs }))
  unfolding hold takes is_after
  hold_two none = rw (fm, fn)
  hold_two (some h) = hold_two_some h (ltb h m.time) (ltb h n.time) (ltb m.time n.time) refl refl refl

hold-code : (m : Submission) (s : Entry) → (hold m s).code ≡ s.code
unfolding hold takes
hold-code m s = go (is_from s.code m && is_after m.time s.held)
  where
    go : (b : Bool) → (cond b (record { code = s.code; held = some m.time; bids = m.bids }) s).code ≡ s.code
    go true = refl
    go false = refl

-- the latest

-- what `latest` gives: a member that no member is after, or nothing where there is no member
abbrev pub IsLatest : List Submission → Option Submission → Type 0
IsLatest ms none = (m : Submission) → Memᴰ m ms → ⊥
IsLatest ms (some n) = Memᴰ n ms × ((m : Submission) → Memᴰ m ms → m.time ≤ n.time)

pub is_latest : (ms : List Submission) → IsLatest ms (latest ms)
unfolding latest later_of
is_latest [] = λ m k. mathlib.Core.List.Memᴰ.not-nil k
is_latest (x ∷ ms) = go (latest ms) (is_latest ms)
  where
    go₁ : (n : Submission) (b : Bool) → ltb x.time n.time ≡ b → IsLatest ms (some n) → IsLatest (x ∷ ms) (cond b (some n) (some x))
    go₁ n true e h = (mathlib.Core.List.Memᴰ.tail h.0, λ m k. bound m (mathlib.Core.List.Memᴰ.cases_cons k))
      where
        bound : (m : Submission) → (m ≡ x) ⊎ Memᴰ m ms → m.time ≤ n.time
        bound m (inl q) = omega (arith, ltb-true, ap {B = ℕ} (λ (r : Submission). r.time) q)
        bound m (inr k) = h.1 m k
    go₁ n false e h = (mathlib.Core.List.Memᴰ.head refl, λ m k. bound m (mathlib.Core.List.Memᴰ.cases_cons k))
      where
        bound : (m : Submission) → (m ≡ x) ⊎ Memᴰ m ms → m.time ≤ x.time
        bound m (inl q) = omega (arith, ap {B = ℕ} (λ (r : Submission). r.time) q)
        bound m (inr k) = omega (arith, ltb-false, h.1 m k)

    go : (l : Option Submission) → IsLatest ms l → IsLatest (x ∷ ms) (later_of x l)
    go none h = (mathlib.Core.List.Memᴰ.head refl, λ m k. bound m (mathlib.Core.List.Memᴰ.cases_cons k))
      where
        bound : (m : Submission) → (m ≡ x) ⊎ Memᴰ m ms → m.time ≤ x.time
        bound m (inl q) = omega (arith, ap {B = ℕ} (λ (r : Submission). r.time) q)
        bound m (inr k) = absurd (h m k)
    go (some n) h = go₁ n (ltb x.time n.time) refl h

-- one entry after a list of messages

join : Entry → Option Submission → Entry
join s none = s
join s (some m) = hold m s

unfoldable pub time_of : Option Submission → Option ℕ
time_of none = none
time_of (some m) = some m.time

hold_join : (m : Submission) (s : Entry) (l : Option Submission) → is_from s.code m ≡ true → ((n : Submission) → l ≡ some n → is_from s.code n ≡ true)
    → join (hold m s) l ≡ join s (later_of m l)
unfolding join later_of
hold_join m s none fm fl = refl
hold_join m s (some n) fm fl = go (ltb m.time n.time) refl
  where
    both : hold n (hold m s) ≡ cond (ltb m.time n.time) (hold n s) (hold m s)
    both = hold_two s.code s.bids m n fm (fl n refl) s.held

    go : (b : Bool) → ltb m.time n.time ≡ b → hold n (hold m s) ≡ join s (cond b (some n) (some m))
    go true e = both ∙ rw e
    go false e = both ∙ rw e

latest_member : (c : ℕ) (ms : List Submission) (n : Submission) → latest (keep (is_from c) ms) ≡ some n → Memᴰ n ms × (is_from c n ≡ true)
latest_member c ms n e = mem_keep (is_from c) ms (subst (IsLatest (keep (is_from c) ms)) e (is_latest (keep (is_from c) ms))).0

-- an entry after a list of messages: the later of what it held and the latest sound message of its code
entry-after : (ms : List Submission) (s : Entry) → hold_all ms s ≡ join s (latest (keep (is_from s.code) ms))
unfolding hold_all keep latest join
entry-after [] s = refl
entry-after (m ∷ ms) s = go (is_from s.code m) refl (entry-after ms (hold m s)) (entry-after ms s)
  where
    go : (b : Bool) → is_from s.code m ≡ b
        → hold_all ms (hold m s) ≡ join (hold m s) (latest (keep (is_from (hold m s).code) ms))
        → hold_all ms s ≡ join s (latest (keep (is_from s.code) ms))
        → hold_all ms (hold m s) ≡ join s (latest (cond b (m ∷ keep (is_from s.code) ms) (keep (is_from s.code) ms)))
    go true e ih _ = ih ∙ ap (λ c. join (hold m s) (latest (keep (is_from c) ms))) (hold-code m s) ∙ hold_join m s (latest (keep (is_from s.code) ms)) e (λ n q. (latest_member s.code ms n q).1)
    go false e _ ih = rw (hold_other m s e) ih

-- an entry of a new book holds the time and bids of the latest sound message of its code
pub entry_final : (c : ℕ) (ms : List Submission) → TenBids ms
    → hold_all ms (new_entry c) ≡ record { code = c; held = time_of (latest (keep (is_from c) ms)); bids = final_bids c ms }
unfolding new_entry final_bids join hold takes is_after time_of bids_of_latest
entry_final c ms ten = entry-after ms (new_entry c) ∙ go (latest (keep (is_from c) ms)) (latest_member c ms)
  where
    go : (l : Option Submission) → ((n : Submission) → l ≡ some n → Memᴰ n ms × (is_from c n ≡ true)) → join (new_entry c) l ≡ record { code = c; held = time_of l; bids = bids_of_latest l }
    go none f = refl
    go (some n) f =
        let k = f n refl in
        rw k.1 (ap (λ (bs : List Bid). record { code = c; held = some n.time; bids = bs }) (sym (latest-bids n (ten n k.0))))

-- the whole book
unfoldable pub final_entry : List Submission → ℕ → Entry
final_entry ms c = record { code = c; held = time_of (latest (keep (is_from c) ms)); bids = final_bids c ms }

pub book_final : (cs : List ℕ) (ms : List Submission) → TenBids ms → hold_all_in ms (new_book cs) ≡ map (final_entry ms) cs
unfolding new_book final_entry
book_final cs ms ten = entry_by_entry ms (map new_entry cs) ∙ each cs
  where
    each : (cs : List ℕ) → map (hold_all ms) (map new_entry cs) ≡ map (final_entry ms) cs
    each [] = refl
    each (c ∷ cs) = λ i. entry_final c ms ten i ∷ each cs i

-- rearranged messages

pub is_sound_lem : (c : ℕ) (m : Submission) → is_from c m ≡ true → m.sound ≡ true
unfolding is_from
is_sound_lem c m e = (and_left m.sound (eqb m.code c) e)

is_code : (c : ℕ) (m : Submission) → is_from c m ≡ true → m.code ≡ c
unfolding is_from
is_code c m e = eqb-true m.code c (and_right m.sound (eqb m.code c) e)

module _ (c : ℕ) (ms ns : List Submission) (one : Agreeing ms) (p : Rearranged ms ns) where
  there : (m : Submission) → Memᴰ m (keep (is_from c) ms) → Memᴰ m (keep (is_from c) ns)
  there m k = keep_mem (is_from c) ns (rearranged_mem p (mem_keep (is_from c) ms k).0) (mem_keep (is_from c) ms k).1

  back : (m : Submission) → Memᴰ m (keep (is_from c) ns) → Memᴰ m (keep (is_from c) ms)
  back m k = keep_mem (is_from c) ms (rearranged_mem (rearranged_back p) (mem_keep (is_from c) ns k).0) (mem_keep (is_from c) ns k).1

  agree : (m n : Submission) → Memᴰ m (keep (is_from c) ms) → Memᴰ n (keep (is_from c) ms) → m.time ≡ n.time → m.bids ≡ n.bids
  agree m n hm hn e =
      let fm : Memᴰ m ms × (is_from c m ≡ true) = mem_keep (is_from c) ms hm in
      let fn : Memᴰ n ms × (is_from c n ≡ true) = mem_keep (is_from c) ms hn in
      one m n fm.0 fn.0 (is_sound_lem c m fm.1) (is_sound_lem c n fn.1) (is_code c m fm.1 ∙ sym (is_code c n fn.1)) e

  same-latest : (l k : Option Submission) → IsLatest (keep (is_from c) ms) l → IsLatest (keep (is_from c) ns) k → (time_of l ≡ time_of k) × (bids_of_latest l ≡ bids_of_latest k)
  unfolding time_of bids_of_latest cancels
  same-latest none none hl hk = (refl, refl)
  same-latest none (some n) hl hk = absurd (hl n (back n hk.0))
  same-latest (some m) none hl hk = absurd (hk m (there m hl.0))
  same-latest (some m) (some n) hl hk = (ap {B = Option ℕ} some e, ap (λ (bs : List Bid). cond (not (any filled bs)) ten_zeros bs) (agree m n hl.0 (back n hk.0) e))
    where
      e : m.time ≡ n.time
      e = omega (arith, hl.1 n (back n hk.0), hk.1 m (there m hl.0))

  same-entry : final_entry ms c ≡ final_entry ns c
  unfolding final_entry final_bids
  same-entry =
      let e : (time_of (latest (keep (is_from c) ms)) ≡ time_of (latest (keep (is_from c) ns))) × (bids_of_latest (latest (keep (is_from c) ms)) ≡ bids_of_latest (latest (keep (is_from c) ns)))
      = same-latest (latest (keep (is_from c) ms)) (latest (keep (is_from c) ns)) (is_latest (keep (is_from c) ms)) (is_latest (keep (is_from c) ns)) in
      λ i. record { code = c; held = e.0 i; bids = e.1 i }

-- rearranged messages leave the same book
pub book_rearranged : (cs : List ℕ) (ms ns : List Submission) → TenBids ms → Agreeing ms → Rearranged ms ns → hold_all_in ms (new_book cs) ≡ hold_all_in ns (new_book cs)
book_rearranged cs ms ns ten one p = book_final cs ms ten ∙ each cs ∙ sym (book_final cs ns (λ n k. ten n (rearranged_mem (rearranged_back p) k)))
  where
    each : (cs : List ℕ) → map (final_entry ms) cs ≡ map (final_entry ns) cs
    each [] = refl
    each (c ∷ cs) = λ i. same-entry c ms ns one p i ∷ each cs i

-- which of the latest makes no difference

rearranged_same : (xs : List Submission) → Rearranged xs xs
rearranged_same [] = nothing
rearranged_same (x ∷ xs) = keep-first (rearranged_same xs)

-- The final bids are those of any sound message of the counterparty that no other is later than.
pub final_any : (c : ℕ) (ms : List Submission) → TenBids ms → Agreeing ms → (m : Submission) → Memᴰ m ms → is_from c m ≡ true
    → ((n : Submission) → Memᴰ n ms → is_from c n ≡ true → n.time ≤ m.time) → final_bids c ms ≡ m.bids
unfolding final_bids
final_any c ms ten one m k f last =
    (same-latest c ms ms one (rearranged_same ms) (latest (keep (is_from c) ms)) (some m) (is_latest (keep (is_from c) ms))
    (keep_mem (is_from c) ms k f, λ n h. last n (mem_keep (is_from c) ms h).0 (mem_keep (is_from c) ms h).1)
    ).1
    ∙ latest-bids m (ten m k)

-- Without a sound message there are none.
pub final_none : (c : ℕ) (ms : List Submission) → ((n : Submission) → Memᴰ n ms → is_from c n ≡ true → ⊥) → final_bids c ms ≡ ten_zeros
unfolding final_bids bids_of_latest
final_none c ms h = go (latest (keep (is_from c) ms)) (is_latest (keep (is_from c) ms))
  where
    go : (l : Option Submission) → IsLatest (keep (is_from c) ms) l → bids_of_latest l ≡ ten_zeros
    go none k = refl
    go (some m) k = absurd (h m (mem_keep (is_from c) ms k.0).0 (mem_keep (is_from c) ms k.0).1)
