-- The lines of runs one after another are the log. Assumes nothing.
use mathlib.Core.Path.{◌≡◌, refl, sym, ap, ap₂, ◌∙◌}
use mathlib.Core.Bool.{false, not, ◌&&◌}
use mathlib.Core.List.{List, [], ◌++◌}
use Prim.Native.Nat.{ℕ, zero, suc}
use native.Mathlib.Nat.{zero-add}
use lib.ListN.{length, take, drop}
use lib.Seq.{take_at}
use Rattle.output.specs.Output.{Wrote}
use Rattle.output.proofs.Output.{from_start}
use Rattle.log_rules.specs.Steps.{Log, start, holds_field, walked, log_from, log_of}
use Rattle.journal.specs.Runs.{RunsAll, no_more, and_next, LogOfRuns}

-- a text written from the start is the first bytes of the space after
pub written-first : (space text after : List ℕ) (n : ℕ) → Wrote space 0 text after n → take n after ≡ text
written-first space text after n w =
    ap (take n) (w.bytes ∙ from_start space text) ∙ take_at text (drop (length text) space) n (sym (w.past ∙ zero-add (length text)))

-- without a whole field, or after its end, the log has no more lines
no_lines : (d : ℕ) (l : Log) (s : List ℕ) → (holds_field s && not l.ended) ≡ false → walked d l s ≡ []
unfolding walked
no_lines zero l s h = refl
no_lines (suc d) l s h = rw h refl

all_lines : (l : Log) (s text : List ℕ) → RunsAll l s text → text ≡ log_from l s
all_lines l s text (no_more h) = sym (no_lines (length s) l s h)
all_lines l s text (and_next {k = k} {left = left} {text = later} {space = space} {after = after} {n = n} rest r more) =
    ap₂ (λ (x y : List ℕ). x ++ y) (written-first space r.text after n r.wrote) (all_lines k (left ++ rest) later more) ∙ sym (r.log rest)

pub log_of_runs : LogOfRuns
unfolding log_of
log_of_runs s text r = all_lines start s text r
