-- Turns one after another over a reader and a writer whose bytes are known: what is written is the log of what is read. Assumes nothing.
use mathlib.Core.Path.{◌≡◌, refl, sym, ap, ap₂, subst, subst₂, ◌∙◌}
use mathlib.Core.Bool.{Bool, true, false, not, ◌&&◌, true≢false, and-true}
use mathlib.Core.List.{List, [], ◌∷◌, ◌++◌, append_assoc, append-nil}
use Prim.Native.Nat.{ℕ, zero, suc, ◌+◌, ◌-◌, ◌*◌, ◌≤◌, ◌<◌, zero-le}
use native.Mathlib.Omega.{arith}
use lib.ListN.{length, take, drop, get_or, length-append}
use borrow.Author.Tests.{le-leb}
use lib.Seq.{get_or-drop, length-take-le}
use Rattle.std.specs.Prelude.{Option, None, Some, IfSome}
use Rattle.std.specs.Io.KnownBytes.{Consumes, Appends, IsAtEnd}
use Rattle.layout.specs.Fields.{length_at}
use Rattle.log_rules.specs.Steps.{Log, start, holds_field, walked, log_from, log_of}
use Rattle.steps.specs.declared.Standing.{Standing}
use Rattle.steps.specs.Viewed.{viewed}
use Rattle.endings.specs.Endings.{ending_text}
use Rattle.session_log.specs.declared.Turn.{Turn}
use Rattle.session_log.specs.Turns.{waiting, Within, NoneWhole, TakesFields, ReadsMore, Turned, got}
use Rattle.session_log.specs.Logs.{Draws, Writes, LogsAll, TurnsUsed}
use Rattle.session_log.proofs.Turns.{waiting-length, lines-written}
use Rattle.session_log.proofs.Ends.{Reached, after_read, after_run, offset_is, at_start}

-- bytes that are drawn one after another, and bytes that are written one after another
draw_none : (left : Option (List ℕ)) → Consumes left left []
draw_none None = tt
draw_none (Some xs) = refl

draw_more : (a b c : Option (List ℕ)) (xs ys : List ℕ) → Consumes a b xs → Consumes b c ys → Consumes a c (xs ++ ys)
draw_more None b c xs ys p q = tt
draw_more (Some x) None c xs ys p q = absurd p
draw_more (Some x) (Some y) None xs ys p q = absurd q
draw_more (Some x) (Some y) (Some z) xs ys p q = p ∙ ap (λ (l : List ℕ). xs ++ l) q ∙ sym (append_assoc xs ys z)

write_none : (held : Option (List ℕ)) → Appends held held []
write_none None = tt
write_none (Some xs) = sym (append-nil xs)

write_more : (a b c : Option (List ℕ)) (xs ys : List ℕ) → Appends a b xs → Appends b c ys → Appends a c (xs ++ ys)
write_more None b c xs ys p q = tt
write_more (Some x) None c xs ys p q = absurd p
write_more (Some x) (Some y) None xs ys p q = absurd q
write_more (Some x) (Some y) (Some z) xs ys p q = q ∙ ap (λ (l : List ℕ). l ++ ys) p ∙ append_assoc x xs ys

-- without a whole field, or after its end, the log has no more lines
no_lines : (d : ℕ) (l : Log) (s : List ℕ) → (holds_field s && not l.ended) ≡ false → walked d l s ≡ []
unfolding walked
no_lines zero l s h = refl
no_lines (suc d) l s h = rw h refl

-- of the turns that take fields each but the last before a read gives a line: so many are owed before a turn of this kind
abbrev pub owed : Bool → ℕ
owed true = 0
owed false = 1

-- what the turns so far have come to: the bytes that were read and the lines that were written, and that the log goes on from where the turn stands
pub record Sofar (left₀ left held₀ held : Option (List ℕ)) (turns : ℕ) (t : Turn) (codes words input : List ℕ) : Type 0 where
  pub read : List ℕ
  pub written : List ℕ
  pub drawn : Consumes left₀ left read
  pub appended : t.failed ≡ None → Appends held₀ held written
  pub log : (rest : List ℕ) → log_from start (read ++ rest) ≡ written ++ log_from (viewed t.standing codes words) (waiting t input ++ rest)
  pub reached : Reached t input read
  pub goes_on : t.more ≡ true → (t.failed ≡ None) × (t.standing.ended ≡ false)
  pub none : t.reads ≡ true → NoneWhole t input
  pub used : t.more ≡ true → turns + owed t.reads ≤ 2 * length read + length written
  pub done : t.more ≡ false → t.failed ≡ None → NoneWhole t input × (t.standing.ended ≡ false → 65538 ≤ length input → IsAtEnd left)

-- after the end of the log no field is asked for
ended_whole : (h e : Bool) → e ≡ true → (h && not e) ≡ false
ended_whole false e p = refl
ended_whole true e p = ap not p

unended_whole : (h e : Bool) → e ≡ false → (h && not e) ≡ false → h ≡ false
unended_whole h e p q = sym (and-true h) ∙ ap (λ (b : Bool). h && not b) (sym p) ∙ q

-- bytes that hold no whole field are fewer than the longest field has
few : (s : List ℕ) → ((k : ℕ) → get_or s k 0 < 256) → holds_field s ≡ false → length s < 65538
unfolding holds_field
few s b h =
    let high = b 1 in
    let low = b 2 in
    let held : 65538 ≤ length s → holds_field s ≡ true =
    λ m. ap₂ (λ (x y : Bool). x && y) (le-leb 3 (length s) (omega (arith, m))) (le-leb (3 + length_at s) (length s) (omega (arith, m, high, low))) in
    let short : 65538 ≤ length s → ⊥ = λ m. true≢false (sym (held m) ∙ h) in
    omega (arith, short)

-- the bytes that wait are bytes of the buffer
get_taken : (n k : ℕ) (l : List ℕ) (m : ℕ) → ((k : ℕ) → get_or l k 0 < m) → 0 < m → get_or (take n l) k 0 < m
get_taken zero k l m b p = p
get_taken (suc n) k [] m b p = b k
get_taken (suc n) zero (x ∷ l) m b p = b 0
get_taken (suc n) (suc k) (x ∷ l) m b p = get_taken n k l m (λ (i : ℕ). b (suc i)) p

waiting_few : {t : Turn} {input : List ℕ} → ((k : ℕ) → get_or input k 0 < 256) → Within t input → NoneWhole t input → t.standing.ended ≡ false → t.to - t.from < 65538
waiting_few {t} {input} b w n u =
    let bytes = λ (k : ℕ). get_taken (t.to - t.from) k (drop t.from input) 256 (λ (i : ℕ). subst (λ (x : ℕ). x < 256) (sym (get_or-drop t.from input i 0)) (b (t.from + i))) (omega arith) in
    let short = few (waiting t input) bytes (unended_whole (holds_field (waiting t input)) t.standing.ended u n) in
    let long = waiting-length w in
    omega (arith, short, long)

credit : (b e : Bool) → b ≡ e → owed b ≡ owed e
credit b e p = ap owed p

next_credit : (b : Bool) (n : ℕ) → (b ≡ false → 0 < n) → owed b ≤ n
next_credit true n g = zero-le
next_credit false n g = g refl

-- before the first turn
pub at_first : (left held : Option (List ℕ)) (t : Turn) (codes words input : List ℕ) → viewed t.standing codes words ≡ start → (t.before ≡ 0) × (t.to ≡ 0) → (t.more ≡ true) × (t.failed ≡ None) → (t.reads ≡ true) → Within t input → Sofar left left held held 0 t codes words input
unfolding holds_field
at_first left held t codes words input v z m reads w =
    let to = z.1 in
    let none : t.to - t.from ≡ 0 = omega (arith, to) in
    let empty : waiting t input ≡ [] = ap (λ (n : ℕ). take n (drop t.from input)) none in
    let unended : t.standing.ended ≡ false = ap (λ (l : Log). l.ended) v in
    record {
      read = [];
      written = [];
      drawn = draw_none left;
      appended = λ f. write_none held;
      log = λ rest. ap₂ (λ (l : Log) (s : List ℕ). log_from l (s ++ rest)) (sym v) (sym empty);
      reached = at_start z w;
      goes_on = λ g. (m.1, unended);
      none = λ r. ap (λ (s : List ℕ). holds_field s && not t.standing.ended) empty;
      used = λ g. let none = credit t.reads true reads in omega (arith, none);
      done = λ d. absurd (true≢false (sym m.0 ∙ d));
    }

-- after a turn that reads
pub after_draw : {left₀ left left₂ held₀ held : Option (List ℕ)} {turns : ℕ} {t r : Turn} {codes words input after : List ℕ}
    → Sofar left₀ left held₀ held turns t codes words input → t.more ≡ true → t.reads ≡ true → ReadsMore t input r after → Draws left left₂ t input r after
    → ((k : ℕ) → get_or after k 0 < 256) → length after ≡ length input
    → Sofar left₀ left₂ held₀ held (turns + 1) r codes words after
after_draw {left₀} {left} {left₂} {held₀} {held} {turns} {t} {r} {codes} {words} {input} {after} v m reads k d bytes same =
    let more = got t input r after in
    let none = v.none reads in
    let unended = (v.goes_on m).1 in
    let kept : r.standing.ended ≡ t.standing.ended = ap (λ (s : Standing). s.ended) k.standing_kept in
    record {
      read = v.read ++ more;
      written = v.written;
      drawn = draw_more left₀ left left₂ v.read more v.drawn d.drawn;
      appended = λ f. v.appended (v.goes_on m).0;
      log = λ rest.
          ap (λ (s : List ℕ). log_from start s) (append_assoc v.read more rest)
          ∙ v.log (more ++ rest)
          ∙ ap (λ (s : List ℕ). v.written ++ log_from (viewed t.standing codes words) s) (sym (append_assoc (waiting t input) more rest) ∙ ap (λ (x : List ℕ). x ++ rest) (sym k.kept))
          ∙ ap (λ (s : Standing). v.written ++ log_from (viewed s codes words) (waiting r after ++ rest)) (sym k.standing_kept);
      reached = after_read v.reached unended k;
      goes_on = λ g. ((d.goes_on g).0, kept ∙ unended);
      none = λ g. absurd (true≢false (sym g ∙ k.takes_next));
      used = λ g.
          let most = v.used m in
          let some = (d.goes_on g).1 in
          let last = credit t.reads true reads in
          let next = credit r.reads false k.takes_next in
          let longer = length-append v.read more in
          omega (arith, most, some, last, next, longer);
      done = λ g f.
          let end = d.at_end g f in
          let same_waiting : waiting r after ≡ waiting t input = k.kept ∙ ap (λ (s : List ℕ). waiting t input ++ s) end.0 ∙ append-nil (waiting t input) in
          let whole : NoneWhole r after = ap₂ (λ (s : List ℕ) (e : Bool). holds_field s && not e) same_waiting kept ∙ none in (
            whole,
            λ u room.
                let short = waiting_few bytes k.within whole u in
                let new = waiting-length k.within in
                let old = waiting-length v.reached.within in
                let moved = ap length same_waiting in
                end.1 (omega (arith, short, new, old, moved, room, same)),
          );
    }

-- after a turn that takes fields
pub after_write : {left₀ left held₀ held held₂ : Option (List ℕ)} {turns : ℕ} {t r : Turn} {codes words input space codes₂ words₂ after : List ℕ}
    → Sofar left₀ left held₀ held turns t codes words input → t.more ≡ true → t.reads ≡ false → TakesFields t codes words input space r codes₂ words₂ after → Writes held held₂ r after → length after ≡ length space
    → Sofar left₀ left held₀ held₂ (turns + 1) r codes₂ words₂ input
after_write {left₀} {left} {held₀} {held} {held₂} {turns} {t} {r} {codes} {words} {input} {space} {codes₂} {words₂} {after} v m takes k d same =
    let lines = take r.length after in
    record {
      read = v.read;
      written = v.written ++ lines;
      drawn = v.drawn;
      appended = λ f. write_more held₀ held held₂ v.written lines (v.appended (v.goes_on m).0) (d.written f);
      log = λ rest.
          v.log rest
          ∙ ap (λ (s : List ℕ). v.written ++ s) (lines-written k rest)
          ∙ sym (append_assoc v.written lines (log_from (viewed r.standing codes₂ words₂) (waiting r input ++ rest)));
      reached = after_run v.reached (v.goes_on m).1 k;
      goes_on = d.goes_on;
      none = k.all;
      used = λ g.
          let most = v.used m in
          let last = credit t.reads false takes in
          let longer = length-append v.written lines in
          let room = k.room in
          let count = length-take-le r.length after (omega (arith, room, same)) in
          let next = next_credit r.reads r.length d.gave in
          omega (arith, most, last, longer, count, next);
      done = λ g f.
          let e = d.ends g f in
          (ended_whole (holds_field (waiting r input)) r.standing.ended e, λ u. absurd (true≢false (sym e ∙ u)));
    }

-- after a turn of either kind
pub after_turn : {left₀ left left₂ held₀ held held₂ : Option (List ℕ)} {turns : ℕ} {t r : Turn} {codes words input space codes₂ words₂ input₂ after : List ℕ}
    → Sofar left₀ left held₀ held turns t codes words input → t.more ≡ true → Turned t codes words input space r codes₂ words₂ input₂ after
    → (t.reads ≡ true → Draws left left₂ t input r input₂ × (held₂ ≡ held))
    → (t.reads ≡ false → Writes held held₂ r after × (left₂ ≡ left))
    → ((k : ℕ) → get_or input₂ k 0 < 256) → length input₂ ≡ length input → length after ≡ length space
    → Sofar left₀ left₂ held₀ held₂ (turns + 1) r codes₂ words₂ input₂
after_turn {left₀} {left} {left₂} {held₀} {held} {held₂} {turns} {t} {r} {codes} {words} {input} {space} {codes₂} {words₂} {input₂} {after} v m k draws writes bytes same same_space = go t.reads refl
  where
    go : (b : Bool) → t.reads ≡ b → Sofar left₀ left₂ held₀ held₂ (turns + 1) r codes₂ words₂ input₂
    go true e =
        let p = k.read e in
        let d = draws e in
        subst (λ (h : Option (List ℕ)). Sofar left₀ left₂ held₀ h (turns + 1) r codes₂ words₂ input₂) (sym d.1)
        (subst₂ (λ (c w : List ℕ). Sofar left₀ left₂ held₀ held (turns + 1) r c w input₂) (sym p.0) (sym p.1) (after_draw v m e p.2 d.0 bytes same))
    go false e =
        let p = k.taken e in
        let w = writes e in
        subst₂ (λ (l : Option (List ℕ)) (i : List ℕ). Sofar left₀ l held₀ held₂ (turns + 1) r codes₂ words₂ i) (sym w.1) (sym p.0) (after_write v m e p.1 w.0 same_space)

-- what is written is the log of all that a reader had, where it has no more or the log has ended
all_read : (left₀ left : Option (List ℕ)) (read written : List ℕ) (e : Bool) → Consumes left₀ left read
    → ((rest : List ℕ) → e ≡ true → log_from start (read ++ rest) ≡ written)
    → (e ≡ false → IsAtEnd left)
    → written ≡ log_of read
    → IfSome left₀ (λ (xs : List ℕ). log_of xs ≡ log_of read)
unfolding log_of
all_read None left read written e p log end same = tt
all_read (Some xs) None read written e p log end same = absurd p
all_read (Some xs) (Some ys) read written true p log end same = ap (λ (s : List ℕ). log_from start s) p ∙ log ys refl ∙ same
all_read (Some xs) (Some ys) read written false p log end same =
    ap (λ (s : List ℕ). log_from start s) (p ∙ ap (λ (s : List ℕ). read ++ s) (end refl) ∙ append-nil read)

-- after the last turn
pub at_last : {left₀ left held₀ held : Option (List ℕ)} {turns : ℕ} {t : Turn} {codes words input : List ℕ}
    → Sofar left₀ left held₀ held turns t codes words input → t.more ≡ false → t.failed ≡ None → LogsAll left₀ left held₀ held t input
unfolding log_of
at_last {left₀} {left} {held₀} {held} {turns} {t} {codes} {words} {input} v m f =
    let end = v.done m f in
    let l = viewed t.standing codes words in
    let no_more : (rest : List ℕ) → (holds_field (waiting t input ++ rest) && not t.standing.ended) ≡ false → log_from start (v.read ++ rest) ≡ v.written =
    λ rest h.
    v.log rest
    ∙ ap (λ (s : List ℕ). v.written ++ s) (no_lines (length (waiting t input ++ rest)) l (waiting t input ++ rest) h)
    ∙ append-nil v.written in
    let whole : v.written ≡ log_of v.read =
    sym (no_more [] (ap (λ (s : List ℕ). holds_field s && not t.standing.ended) (append-nil (waiting t input)) ∙ end.0))
    ∙ ap (λ (s : List ℕ). log_from start s) (append-nil v.read) in
    record {
      read = v.read;
      drawn = v.drawn;
      written = subst (Appends held₀ held) whole (v.appended f);
      all = λ room.
          all_read left₀ left v.read v.written t.standing.ended v.drawn
          (λ rest e. no_more rest (ended_whole (holds_field (waiting t input ++ rest)) t.standing.ended e))
          (λ u. end.1 u room)
          whole;
      line = ap₂ (λ (n : ℕ) (x : List ℕ). ending_text n x) (offset_is v.reached) (sym v.reached.asked);
    }

-- after as many turns as are counted, where there is more to do
pub at_limit : {left₀ left held₀ held : Option (List ℕ)} {turns : ℕ} {t : Turn} {codes words input : List ℕ}
    → Sofar left₀ left held₀ held turns t codes words input → 18446744073709551615 ≤ turns → t.more ≡ true → TurnsUsed left₀ left held₀ held
at_limit v all m =
    let most = v.used m in
    record {
      read = v.read;
      written = v.written;
      drawn = v.drawn;
      appended = v.appended (v.goes_on m).0;
      many = omega (arith, most, all);
    }
