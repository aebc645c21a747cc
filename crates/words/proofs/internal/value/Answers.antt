-- `words::internal::value` meets its contract: digits are added by pairs, fours and eights. Assumes nothing.
use Rattle.std.proofs.Common.{ℕ, ◌+◌, ◌*◌, ◌/◌, sym, ap, ◌∙◌, arith}
use lib.Bits.{and_le_r}
use Rattle.words.specs.Words.{decimal}
use Rattle.words.proofs.Adding.{Eight, eight_of_lem, pairs_of, fours_of, eight_of, pairs_are, fours_are, eight_is, eight_max}
use Rattle.words.proofs.internal.value.Goals.{Start}
use Rattle.words.proofs.internal.value.Goals as goal

known : (c : Start) → Eight c.args.t
known c = eight_of_lem c.args.t (omega arith) c.requires

pub overflow_mul-p : goal.overflow_mul-p
overflow_mul-p c = let m = eight_max c.args.t (known c) in omega arith

pub overflow_add-p : goal.overflow_add-p
overflow_add-p c = let m = eight_max c.args.t (known c) in omega arith

pub overflow_mul-f : goal.overflow_mul-f
overflow_mul-f c = let m = and_le_r (c.args.t * 10 + c.args.t / 256) 71777214294589695 in omega arith

pub overflow_add-f : goal.overflow_add-f
overflow_add-f c = let m = and_le_r (c.args.t * 10 + c.args.t / 256) 71777214294589695 in omega arith

pub overflow_mul-result : goal.overflow_mul-result
overflow_mul-result c = let p = pairs_of c.args.t in let m = and_le_r (p * 100 + p / 65536) 281470681808895 in omega arith

pub overflow_add-result : goal.overflow_add-result
overflow_add-result c = let p = pairs_of c.args.t in let m = and_le_r (p * 100 + p / 65536) 281470681808895 in omega arith

pub returns : goal.returns
returns c =
    let t = c.args.t in
    let w = known c in
    ap (λ (p : ℕ). eight_of (fours_of p)) (pairs_are t w) ∙ ap eight_of (fours_are t w) ∙ eight_is t w ∙ ap (decimal 0) (sym w.bytes)
