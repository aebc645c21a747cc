-- The bytes that wait after a turn, and the log of turns one after another. Assumes nothing.
use mathlib.Core.Path.{◌≡◌, refl, sym, ap, ap₂, subst, subst₂, ◌∙◌}
use mathlib.Core.Bool.{Bool, true, false, not, ◌&&◌, and-true}
use mathlib.Core.List.{List, [], ◌∷◌, ◌++◌, append_assoc, append-nil}
use Prim.Native.Nat.{ℕ, zero, suc, ◌+◌, ◌-◌, ◌≤◌, zero-le}
use native.Mathlib.Nat.{sub-zero, zero-sub, suc-sub-suc}
use native.Mathlib.Omega.{arith}
use borrow.Author.Tests.{le-leb, eqb-true}
use lib.Dec.{leb, eqb}
use lib.ListN.{length, take, drop, take-append-drop, length-drop}
use lib.Seq.{drop-drop, take-take, take-nil, take_all, take_at, length-take-le}
use Rattle.std.specs.Prelude.{None, Result, Ok, Err}
use Rattle.std.specs.Result.{result_unwrap_or}
use Rattle.std.specs.Io.{ReadsAtMost}
use Rattle.output.specs.Output.{Wrote}
use Rattle.log_rules.specs.Steps.{Log, holds_field, log_from}
use Rattle.steps.specs.declared.Standing.{Standing}
use Rattle.steps.specs.Viewed.{viewed, Given}
use Rattle.journal.specs.Runs.{Runs, LogsIn, RunsAll, no_more, and_next}
use Rattle.journal.specs.declared.internal.Ran.{Ran}
use Rattle.journal.proofs.Whole.{written-first, log_of_runs}
use Rattle.endings.specs.Endings.{left_of, ending_text}
use Rattle.session_log.specs.declared.Turn.{Turn}
use Rattle.session_log.specs.Turns as turns
use Rattle.session_log.specs.Turns.{waiting, handed, Within, Journal, Lines, TakesFields, counted, ReadsMore, Turned, TurnsAll, LogOfTurns, ending_of}

-- what is left of a part of the buffer is a part of the buffer
drop-take : (u n : ℕ) (l : List ℕ) → drop u (take n l) ≡ take (n - u) (drop u l)
drop-take zero n l = ap (λ (k : ℕ). take k l) (sym (sub-zero n))
drop-take (suc u) zero l = ap (λ (k : ℕ). take k (drop (suc u) l)) (sym (zero-sub (suc u)))
drop-take (suc u) (suc n) [] = sym (take-nil (suc n - suc u))
drop-take (suc u) (suc n) (x ∷ l) = drop-take u n l ∙ ap (λ (k : ℕ). take k (drop u l)) (sym (suc-sub-suc n u))

pub left_waits : (from to used : ℕ) (input : List ℕ) → drop used (take (to - from) (drop from input)) ≡ take (to - (from + used)) (drop (from + used) input)
left_waits from to used input =
    let e : to - from - used ≡ to - (from + used) = omega arith in
    drop-take used (to - from) (drop from input) ∙ ap₂ (λ (k : ℕ) (l : List ℕ). take k l) e (drop-drop used from input)

-- a run that gave no line into a space with room left no whole field
pub none_whole : (h e : Bool) (room n : ℕ) → (h && e && leb 23040 (room - n)) ≡ false → 23040 ≤ room → n ≡ 0 → (h && e) ≡ false
none_whole h e room n p r z =
    let m : 23040 ≤ room - n = omega (arith, r, z) in
    sym (and-true (h && e)) ∙ ap (λ (b : Bool). (h && e) && b) (sym (le-leb 23040 (room - n) m)) ∙ p

-- what waited, and stands at the start of the buffer, is the start of what waits after a read
pub kept-first : (w after : List ℕ) (left n : ℕ) → length w ≡ left → take left after ≡ w → take (left + n - 0) (drop 0 after) ≡ w ++ drop (length w) (take (left + n - 0) (drop 0 after))
kept-first w after left n l p =
    let now = take (left + n - 0) after in
    let q : take left now ≡ w = take-take left (left + n - 0) after (omega arith) ∙ p in
    sym (take-append-drop left now) ∙ ap₂ (λ (x : List ℕ) (k : ℕ). x ++ drop k now) q (sym l)

-- as many bytes wait as stand between the indices
pub waiting-length : {t : Turn} {input : List ℕ} → Within t input → length (waiting t input) ≡ t.to - t.from
waiting-length {t} {input} w =
    let inside = w.inside in
    let fits : t.to - t.from ≤ length (drop t.from input) = rw (length-drop t.from input) (omega (arith, inside)) in
    length-take-le (t.to - t.from) (drop t.from input) fits

-- what a run took lies before the index where the waiting bytes end
pub used_within : {t : Turn} {input : List ℕ} {used : ℕ} → Within t input → used ≤ length (waiting t input) → t.from + used ≤ t.to
used_within w used =
    let n = waiting-length w in
    let ordered = w.ordered in
    omega (arith, n, used, ordered)

-- the turn after a run over all that waited
abbrev pub turn_of : Turn → Ran → Bool → Turn
turn_of t ran more = record { more = more; reads = eqb ran.length 0; failed = None; before = t.before; last = t.from; from = t.from + ran.used; to = t.to; length = ran.length; standing = ran.standing }

pub taken_by : (t : Turn) (codes words input space : List ℕ) (ran : Ran) (codes₂ words₂ after : List ℕ) (more : Bool)
    → Within t input → 23040 ≤ length space → LogsIn (viewed t.standing codes words) (waiting t input) space ran codes₂ words₂ after
    → TakesFields t codes words input space (turn_of t ran more) codes₂ words₂ after
taken_by t codes words input space ran codes₂ words₂ after more w room k =
    let left = left_waits t.from t.to ran.used input in
    record {
      runs = subst (λ (x : List ℕ). Runs (viewed t.standing codes words) (waiting t input) space (viewed ran.standing codes₂ words₂) x after ran.length) left k.runs;
      room = k.room;
      within = record { begun = omega arith; ordered = used_within w k.within; inside = w.inside };
      journal = record { given = k.given; codes-length = k.codes-length; words-length = k.words-length };
      all = λ h.
          none_whole (holds_field (waiting (turn_of t ran more) input)) (not ran.standing.ended) (length space) ran.length
          (subst (λ (x : List ℕ). (holds_field x && not ran.standing.ended && leb 23040 (length space - ran.length)) ≡ false) left k.all)
          room
          (eqb-true ran.length 0 h);
      before-kept = refl;
      began = refl;
      handed-all = refl;
    }

-- the turn after a read behind what waited, which was moved to the start of the buffer
pub read_behind : (t r : Turn) (input moved after : List ℕ) (n : ℕ) → r.before ≡ counted t.before t.from → Within t input → moved ≡ waiting t input ++ drop (t.to - t.from) input → take (t.to - t.from) after ≡ take (t.to - t.from) moved → t.to - t.from + n ≤ length after
    → (r.reads ≡ false) × (r.last ≡ 0) × (r.from ≡ 0) × (r.to ≡ t.to - t.from + n) × (r.standing ≡ t.standing) → ReadsMore t input r after
read_behind t r input moved after n b w e p inside is =
    let left = t.to - t.from in
    let l = waiting-length w in
    let first : take left after ≡ waiting t input = p ∙ ap (take left) e ∙ take_at (waiting t input) (drop left input) left l in
    let last = is.1 in
    let from = is.2 in
    let to = is.3 in
    record {
      kept = rw (from, to) (kept-first (waiting t input) after left n l first);
      standing_kept = is.4;
      within = record { begun = omega (arith, last, from); ordered = omega (arith, from); inside = rw to inside };
      takes_next = is.0;
      before-counted = b;
      from_start = (from, last);
    }

-- a read that failed gave nothing, and no read gave more than it had room for
pub at_most_read : {E : Type 0} (r : Result ℕ E) (buf : List ℕ) (n : ℕ) → ReadsAtMost r buf → n ≡ result_unwrap_or r 0 → n ≤ length buf
at_most_read (Ok k) buf n h e = rw e h.0
at_most_read (Err x) buf n h e = rw e zero-le

-- after a turn the indices lie in the buffer again, and its journal is one that a run left
module _ {t r : Turn} {codes words input space codes₂ words₂ after lines : List ℕ} (k : Turned t codes words input space r codes₂ words₂ after lines) where
  pub still_within : Within r after
  still_within = go t.reads refl
    where
      go : (b : Bool) → t.reads ≡ b → Within r after
      go true e = (k.read e).2.within
      go false e = subst (Within r) (sym (k.taken e).0) (k.taken e).1.within

  pub still_journal : Journal t codes words → Journal r codes₂ words₂
  still_journal j = go t.reads refl
    where
      go : (b : Bool) → t.reads ≡ b → Journal r codes₂ words₂
      go true e =
          let p = k.read e in
          record {
            given = subst₂ (λ (st : Standing) (w : List ℕ). Given st w) (sym p.2.standing_kept) (sym p.1) j.given;
            codes-length = ap length p.0 ∙ j.codes-length;
            words-length = ap length p.1 ∙ j.words-length;
          }
      go false e = (k.taken e).1.journal

-- the lines of a run are the first bytes of its space
pub lines-written : {t r : Turn} {codes words input space codes₂ words₂ after : List ℕ} → TakesFields t codes words input space r codes₂ words₂ after → Lines t codes words r codes₂ words₂ input (take r.length after)
lines-written {t} {r} {codes} {words} {input} {space} {codes₂} {words₂} {after} k rest =
    k.runs.log rest
    ∙ ap (λ (x : List ℕ). x ++ log_from (viewed r.standing codes₂ words₂) (waiting r input ++ rest)) (sym (written-first space k.runs.text after r.length k.runs.wrote))

-- turns are runs over what waited and what was read after it
runs_of : {t : Turn} {codes words input read text : List ℕ} → TurnsAll t codes words input read text → RunsAll (viewed t.standing codes words) (waiting t input ++ read) text
runs_of {t} {codes} {words} {input} (turns.no_more h) = subst (λ (s : List ℕ). RunsAll (viewed t.standing codes words) s []) (sym (append-nil (waiting t input))) (no_more h)
runs_of {t} {codes} {words} {input} (turns.and_reads {r = r} {after = after} {read = read} {text = text} k more) =
    subst₂ (λ (l : Log) (s : List ℕ). RunsAll l s text)
    (ap (λ (st : Standing). viewed st codes words) k.standing_kept)
    (ap (λ (s : List ℕ). s ++ read) k.kept ∙ append_assoc (waiting t input) (turns.got t input r after) read)
    (runs_of more)
runs_of (turns.and_takes {read = read} k more) = and_next read k.runs (runs_of more)

pub log_of_turns : LogOfTurns
log_of_turns t codes words input read text j none k =
    log_of_runs read text (subst₂ (λ (l : Log) (s : List ℕ). RunsAll l s text) j (ap (λ (s : List ℕ). s ++ read) none) (runs_of k))

-- the line of an ending is the first bytes of the space that it was written into
pub ending-written : (t : Turn) (input : List ℕ) (at once twice n : ℕ) (line space : List ℕ)
    → (drop at (handed t input) ≡ left_of (handed t input)) × (at ≤ length (handed t input))
    → once ≡ counted t.before t.last
    → twice ≡ counted once at
    → Wrote space 0 (ending_text twice (take (length (handed t input) - at) (drop at (handed t input)))) line n
    → take (n - 0) (drop 0 line) ≡ ending_of t input
ending-written t input at once twice n line space l e f w =
    let s = handed t input in
    let d = length-drop at s in
    let k = ap length l.0 in
    let within = l.1 in
    let rest : take (length s - at) (drop at s) ≡ left_of s = take_all (length s - at) (drop at s) (omega (arith, d)) ∙ l.0 in
    let m : at ≡ length s - length (left_of s) = omega (arith, d, k, within) in
    ap (λ (i : ℕ). take i line) (sub-zero n)
    ∙ written-first space _ line n w
    ∙ ap₂ (λ (i : ℕ) (x : List ℕ). ending_text i x) (f ∙ ap₂ counted e m) rest
