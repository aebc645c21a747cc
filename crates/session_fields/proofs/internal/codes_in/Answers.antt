-- `session_fields::internal::codes_in` meets its contract. The loop's invariant: the first i codes are stored. Assumes nothing.
use mathlib.Core.Path.{◌≡◌, refl, subst}
use Prim.Native.Nat.{ℕ}
use native.Mathlib.Omega.{arith}
use lib.ListN.{take, length-set}
use Rattle.session_fields.specs.Codes.{codes_from}
use Rattle.session_fields.proofs.Codes.{codes_more}
use Rattle.session_fields.proofs.internal.codes_in.Goals as goal

pub loop-i-init : goal.loop-i-init
unfolding codes_from
loop-i-init c = (refl, refl)

pub loop-i-preserved : goal.loop-i-preserved
loop-i-preserved c =
    let l = c.loop-i in
    (simp length-set l.invariant.0, codes_more _ _ _ _ (omega arith) l.invariant.1 c.code_at.ensures)

pub returns : goal.returns
returns c =
    let l = c.loop-i in
    let n = c.args.n in
    let e : l.i ≡ n = omega arith in
    (subst (λ (k : ℕ). take k l.codes ≡ codes_from k c.args.s.now) e l.invariant.1, l.invariant.0)
