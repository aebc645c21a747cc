-- `digits::internal::value` meets its contract. The loop's invariant: what is left continues the number. Assumes nothing.
use mathlib.Core.Path.{◌≡◌, refl, sym, ◌∙◌}
use Prim.Native.Nat.{◌-◌, ◌<◌}
use native.Mathlib.Omega.{arith}
use lib.ListN.{length, get_or}
use Rattle.digits.proofs.Reading.{next_digit, next_digits, next_number, last-number, below_more, below_19}
use Rattle.digits.proofs.internal.value.Goals as goal

pub loop-b-init : goal.loop-b-init
loop-b-init c = (refl, c.requires.s_value, omega arith)

pub overflow_mul-n : goal.overflow_mul-n
overflow_mul-n c =
    let s = c.args.s.now in
    let l = c.loop-b in
    let h = c.requires.s_len_bound in
    let p = below_19 l.n l.b-index (omega arith) l.invariant.2 in
    omega arith

pub overflow_sub-b : goal.overflow_sub-b
overflow_sub-b c =
    let l = c.loop-b in
    (next_digit c.args.s.now l.b-index (omega arith) l.invariant.1).0

pub overflow_add-n : goal.overflow_add-n
overflow_add-n c =
    let s = c.args.s.now in
    let l = c.loop-b in
    let h = c.requires.s_len_bound in
    let p = below_19 l.n l.b-index (omega arith) l.invariant.2 in
    omega arith

pub loop-b-preserved : goal.loop-b-preserved
loop-b-preserved c =
    let s = c.args.s.now in
    let l = c.loop-b in
    let k : l.b-index < length s = omega arith in
    let d = next_digit s l.b-index k l.invariant.1 in
    let e : c.from.result ≡ get_or s l.b-index 0 - 48 = c.from.ensures in
    (rw e (next_number s l.b-index k l.n ∙ l.invariant.0), next_digits s l.b-index k l.invariant.1, below_more l.n l.b-index c.from.result l.invariant.2 (omega arith))

pub returns : goal.returns
returns c =
    let s = c.args.s.now in
    let l = c.loop-b in
    sym (last-number l.n s l.b-index (omega arith)) ∙ l.invariant.0
