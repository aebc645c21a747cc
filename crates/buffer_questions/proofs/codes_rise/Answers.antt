-- `buffer_questions::codes_rise` meets its contract. The loop's invariant: the first i codes rise. Assumes nothing.
use mathlib.Core.Path.{◌≡◌, sym, ap, ◌∙◌}
use Prim.Native.Nat.{ℕ, ◌+◌, ◌-◌}
use native.Mathlib.Omega.{arith}
use lib.ListN.{take}
use Rattle.rules.specs.Opening.{rising}
use Rattle.buffer_questions.proofs.Codes.{rise_more, rise_two, rise_one, no_rise}
use Rattle.buffer_questions.proofs.codes_rise.Goals as goal

pub loop-i-init : goal.loop-i-init
loop-i-init c = (omega arith, omega arith, rise_one c.args.codes.now)

pub loop-i-preserved : goal.loop-i-preserved
loop-i-preserved c =
    let codes = c.args.codes.now in
    let l = c.loop-i in
    (omega arith, omega arith, rise_two codes l.i (omega arith) (omega arith) l.invariant.2 (omega arith) (omega arith))

pub returns-else-codes-i-2 : goal.returns-else-codes-i-2
returns-else-codes-i-2 c =
    let a = c.args in
    let i = c.loop-i.i in
    let e : i + 1 - 1 ≡ i = omega arith in
    no_rise a.codes.now a.n (i + 1) (omega arith) (omega arith) (omega arith) (rw e (omega arith))

pub returns-else-codes-i : goal.returns-else-codes-i
returns-else-codes-i c = no_rise c.args.codes.now c.args.n c.loop-i.i (omega arith) (omega arith) (omega arith) (omega arith)

pub returns-then-i-n : goal.returns-then-i-n
returns-then-i-n c =
    let a = c.args in
    let l = c.loop-i in
    let e : l.i + 1 ≡ a.n = omega arith in
    rise_more a.codes.now l.i (omega arith) (omega arith) l.invariant.2 ∙ ap (λ (k : ℕ). rising (take k a.codes.now)) e

pub returns : goal.returns
returns c =
    let a = c.args in
    let l = c.loop-i in
    let e : l.i ≡ a.n = omega arith in
    sym l.invariant.2 ∙ ap (λ (k : ℕ). rising (take k a.codes.now)) e
