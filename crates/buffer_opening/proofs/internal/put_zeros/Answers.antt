-- `buffer_opening::internal::put_zeros` meets its contract. Assumes nothing.
use mathlib.Core.Path.{ap, ◌∙◌}
use Prim.Native.Nat.{ℕ, ◌+◌, ◌-◌}
use native.Mathlib.Omega.{arith}
use lib.ListN.{replicate, length-replicate}
use borrow.Rule.Slice.PartMut.{put_mid}
use Rattle.output.proofs.Output.{part_back, length_part}
use Rattle.buffer_opening.proofs.internal.put_zeros.Goals as goal

pub returns : goal.returns
returns c =
    let words = c.args.words.now in
    let at = c.args.at in
    let n = c.args.n in
    let long = length-replicate {A = ℕ} n 0 in
    let zeros = c.fill.ensures.after (λ y e. e) ∙ ap (λ (k : ℕ). replicate {A = ℕ} k 0) (length_part words at n c.requires) in
    record {
      bytes = ap (put_mid at (at + n - at) words) zeros ∙ part_back words at n (replicate n 0) long;
      past = omega (arith, long);
    }
