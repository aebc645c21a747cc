-- The line of an ending after turns one after another is that of the bytes read. Assumes nothing.
use mathlib.Core.Path.{◌≡◌, sym, ap, ap₂, subst, ◌∙◌}
use mathlib.Core.Bool.{false}
use mathlib.Core.List.{List, [], ◌++◌, append_assoc, append-nil}
use Prim.Native.Nat.{ℕ, ◌+◌, ◌-◌}
use native.Mathlib.Omega.{arith}
use lib.ListN.{length, take, drop, length-append, length-drop}
use lib.Seq.{length-take-le}
use Rattle.endings.specs.Endings.{left_of, ending_text}
use Rattle.endings.proofs.Left.{left_short}
use Rattle.session_log.specs.declared.Turn.{Turn}
use Rattle.session_log.specs.Turns.{waiting, handed, Within, TakesFields, counted, ReadsMore, got, TurnsTo, stays, then_reads, then_takes, EndingOfTurns}
use Rattle.session_log.proofs.Turns.{waiting-length}

-- what holds of a turn after the bytes so far: so many stood before the buffer, and as much is left of all as of those that the last run was handed, and, while the log has not ended, of those that wait
pub record Reached (t : Turn) (input sofar : List ℕ) : Type 0 where
  pub within : Within t input
  pub base : ℕ
  pub counts : base + t.to ≡ length sofar
  pub before_is : t.before ≡ counted 0 base
  pub asked : left_of sofar ≡ left_of (handed t input)
  pub waits : t.standing.ended ≡ false → (rest : List ℕ) → left_of (sofar ++ rest) ≡ left_of (waiting t input ++ rest)

-- as many bytes were handed to the last run as stand between its indices
handed-length : {t : Turn} {input : List ℕ} → Within t input → length (handed t input) ≡ t.to - t.last
handed-length {t} {input} w =
    let inside = w.inside in
    let d = length-drop t.last input in
    length-take-le (t.to - t.last) (drop t.last input) (omega (arith, inside, d))

-- the count of two parts, each no further than to the largest number
counted_twice : (a b c : ℕ) → counted (counted a b) c ≡ counted a (b + c)
counted_twice a b c = omega arith

pub after_read : {t r : Turn} {input after sofar : List ℕ} → Reached t input sofar → t.standing.ended ≡ false → ReadsMore t input r after → Reached r after (sofar ++ got t input r after)
after_read {t} {r} {input} {after} {sofar} v u k =
    let more = got t input r after in
    record {
      within = k.within;
      base = v.base + t.from;
      counts =
          let old = waiting-length v.within in
          let new = waiting-length k.within in
          let joined = ap length k.kept ∙ length-append (waiting t input) more in
          let all = length-append sofar more in
          let zero = k.from_start.0 in
          let count = v.counts in
          let ordered = v.within.ordered in
          omega (arith, old, new, joined, all, zero, count, ordered);
      before_is = k.before-counted ∙ ap (λ (n : ℕ). counted n t.from) v.before_is ∙ counted_twice 0 v.base t.from;
      asked =
          v.waits u more
          ∙ ap left_of (sym k.kept ∙ ap (λ (i : ℕ). take (r.to - i) (drop i after)) (k.from_start.0 ∙ sym k.from_start.1));
      waits = λ h rest.
          ap left_of (append_assoc sofar more rest)
          ∙ v.waits u (more ++ rest)
          ∙ ap left_of (sym (append_assoc (waiting t input) more rest) ∙ ap (λ (x : List ℕ). x ++ rest) (sym k.kept));
    }

pub after_run : {t r : Turn} {codes words input space codes₂ words₂ after sofar : List ℕ} → Reached t input sofar → t.standing.ended ≡ false → TakesFields t codes words input space r codes₂ words₂ after → Reached r input sofar
after_run {t} {r} {input = input} {sofar = sofar} v u k =
    record {
      within = k.within;
      base = v.base;
      counts =
          let old = waiting-length v.within in
          let new = handed-length k.within in
          let same = ap length k.handed-all in
          let began = k.began in
          let begun = k.within.begun in
          let ordered = k.within.ordered in
          let first = v.within.ordered in
          let count = v.counts in
          omega (arith, old, new, same, began, begun, ordered, first, count);
      before_is = k.before-kept ∙ v.before_is;
      asked = ap left_of (sym (append-nil sofar)) ∙ v.waits u [] ∙ ap left_of (append-nil (waiting t input) ∙ sym k.handed-all);
      waits = λ h rest. v.waits u rest ∙ (k.runs.goes_on h).1 rest;
    }

after_turns : {t e : Turn} {codes words input read last : List ℕ} (sofar : List ℕ) → Reached t input sofar → TurnsTo t codes words input read e last → Reached e last (sofar ++ read)
after_turns {t} {input = input} sofar v stays = subst (Reached t input) (sym (append-nil sofar)) v
after_turns {t} {e} {input = input} {last = last} sofar v (then_reads {r = r} {after = after} {read = read} u k more) =
    subst (Reached e last) (append_assoc sofar (got t input r after) read) (after_turns (sofar ++ got t input r after) (after_read v u k) more)
after_turns sofar v (then_takes u k more) = after_turns sofar (after_run v u k) more

-- the offset of what is left of all bytes
pub offset_is : {e : Turn} {last read : List ℕ} (v : Reached e last read) → counted (counted e.before e.last) (length (handed e last) - length (left_of (handed e last))) ≡ counted 0 (length read - length (left_of read))
offset_is {e} {last} {read} v =
    let s = handed e last in
    let rest = length s - length (left_of s) in
    let n = handed-length v.within in
    let short = left_short (length s) s in
    let same = ap length v.asked in
    let count = v.counts in
    let begun = v.within.begun in
    let ordered = v.within.ordered in
    let sum : v.base + (e.last + rest) ≡ length read - length (left_of read) = omega (arith, n, short, same, count, begun, ordered) in
    counted_twice e.before e.last rest
    ∙ ap (λ (m : ℕ). counted m (e.last + rest)) v.before_is
    ∙ counted_twice 0 v.base (e.last + rest)
    ∙ ap (counted 0) sum

-- before the first turn nothing was read
pub at_start : {t : Turn} {input : List ℕ} → (t.before ≡ 0) × (t.to ≡ 0) → Within t input → Reached t input []
at_start {t} {input} z w =
    let before = z.0 in
    let to = z.1 in
    let none : t.to - t.from ≡ 0 = omega (arith, to) in
    let nothing : t.to - t.last ≡ 0 = omega (arith, to) in
    record {
      within = w;
      base = 0;
      counts = omega (arith, to);
      before_is = before;
      asked = ap (λ (n : ℕ). left_of (take n (drop t.last input))) (sym nothing);
      waits = λ h rest. ap (λ (n : ℕ). left_of (take n (drop t.from input) ++ rest)) (sym none);
    }

pub ending_of_turns : EndingOfTurns
ending_of_turns t codes words input read e last u z w k =
    let v = after_turns [] (at_start z w) k in
    ap₂ (λ (n : ℕ) (x : List ℕ). ending_text n x) (offset_is v) (sym v.asked)
