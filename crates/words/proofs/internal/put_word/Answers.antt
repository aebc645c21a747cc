-- `words::internal::put_word` meets its contract. The loop's invariant: the first i bytes of the word stand in the space, and the bytes left are those of what is left of it. Assumes nothing.
use Rattle.std.proofs.Common.{◌≡◌, ◌-◌, length, refl, ◌∙◌, add-one, arith, length-set, take_all}
use lib.Seq.{paste, paste-zero, paste-suc}
use Rattle.output.specs.Output.{overlay}
use Rattle.words.specs.Words.{low_bytes}
use Rattle.words.proofs.Text.{byte_at, bytes_after, length-bytes}
use Rattle.words.proofs.internal.put_word.Goals as goal

pub loop-i-init : goal.loop-i-init
loop-i-init c = (paste-zero c.args.space.now c.args.at (low_bytes 8 c.args.t), refl)

pub loop-i-preserved : goal.loop-i-preserved
loop-i-preserved c =
    let a = c.args in
    let l = c.loop-i in
    let w = low_bytes 8 a.t in
    let b = byte_at w l.i 8 l.left (omega arith) l.invariant.1 in
    let n = length-bytes 8 a.t in (
      rw (l.invariant.0, add-one, ← b) (paste-suc a.space.now a.at w l.i 0 (omega arith) (omega arith)),
      bytes_after w l.i 8 l.left (omega arith) l.invariant.1,
    )

pub returns : goal.returns
unfolding overlay
returns c =
    let a = c.args in
    let l = c.loop-i in
    let w = low_bytes 8 a.t in
    let k : l.i ≡ 8 = omega arith in
    let n = length-bytes 8 a.t in
    (record { bytes = l.invariant.0 ∙ rw (k, n, take_all 8 w (omega arith)); past = omega arith }, omega arith)
