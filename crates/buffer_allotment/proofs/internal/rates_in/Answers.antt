-- `buffer_allotment::internal::rates_in` meets its contract. The loop's invariant: the first i rates are written. Assumes nothing.
use mathlib.Core.Path.{◌≡◌, refl, sym, ap, subst, ◌∙◌}
use mathlib.Core.List.{◌++◌, map}
use Prim.Native.Nat.{ℕ, ◌+◌}
use native.Mathlib.Omega.{arith}
use lib.ListN.{take, drop, set, replicate, length-map, length-replicate}
use lib.Seq.{take_at, length-take-le}
use Rattle.book.proofs.Mapped.{MappedTo, mapped_more}
use Rattle.buffer.specs.Words.{part, low32}
use Rattle.buffer.proofs.Parts.{part_length, word_at}
use Rattle.buffer_allotment.proofs.internal.rates_in.Goals as goal

pub loop-i-init : goal.loop-i-init
loop-i-init c = (omega arith, refl)

pub loop-i-preserved : goal.loop-i-preserved
loop-i-preserved c =
    let l = c.loop-i in
    let ws = c.args.words.now in
    let n = part_length ws 216 640 (omega (arith, c.requires.0)) in
    let value = c.narrow.ensures ∙ ap low32 (sym (word_at ws 216 640 l.i (omega arith))) in
    subst (λ (x : ℕ). MappedTo low32 (part 216 640 ws) (replicate 640 0) (set l.rates l.i x) (l.i + 1)) (sym value)
    (mapped_more low32 (part 216 640 ws) _ _ _ 0 0 (omega (arith, n, length-replicate {A = ℕ} 640 0)) (omega (arith, n)) l.invariant)

pub returns : goal.returns
returns c =
    let l = c.loop-i in
    let a = c.args in
    let all = map low32 (part 216 640 a.words.now) in
    let n = length-map (part 216 640 a.words.now) low32 ∙ part_length a.words.now 216 640 (omega (arith, c.requires.0)) in
    let k : l.i ≡ a.end = omega arith in
    ap (take a.end) (l.invariant.1 ∙ ap (λ (i : ℕ). take i all ++ drop i (replicate 640 0)) k) ∙ take_at (take a.end all) _ a.end (length-take-le a.end all (omega (arith, n, c.requires.1)))
