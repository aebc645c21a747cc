-- `steps::fields::admission` meets its contract. Assumes nothing.
use mathlib.Core.Path.{◌≡◌, sym, ap, ◌∙◌}
use mathlib.Core.Bool.{Bool, true, ◌&&◌}
use mathlib.Core.List.{◌++◌}
use Prim.Native.Nat.{◌%◌}
use native.Mathlib.Omega.{arith}
use lib.Dec.{eqb}
use lib.ListN.{length, drop}
use lib.Seq.{take_at, length-take-le}
use Rattle.digits.specs.Decimal.{all_digits}
use Rattle.steps.proofs.Admitted.{admitted, not_admitted}
use Rattle.steps.proofs.fields.admission.Goals as goal

pub returns-then-s-all_digits : goal.returns-then-s-all_digits
returns-then-s-all_digits c =
    λ words space g. let a = c.args in
    let s = a.s.now in
    let groups : eqb (length s % 5) 0 && all_digits s ≡ true = ap (λ (b : Bool). eqb (length s % 5) 0 && b) (sym c.all_digits.ensures) ∙ c.if-s-all_digits.true in
    let n = c.min-n.result in
    let r = c.codes_in-admitted in
    let put = c.copy_from_slice.new.self in
    let rest = drop n a.codes.now in
    let many : n ≡ length put = sym (ap length c.copy_from_slice.ensures.after ∙ length-take-le n r.result (omega (arith, r.ensures.1))) in
    admitted a.standing a.codes.now words s space g n (put ++ rest) groups c.min-n.ensures (omega arith)
    (take_at put rest n (sym many) ∙ c.copy_from_slice.ensures.after ∙ r.ensures.0)

pub returns : goal.returns
returns c =
    λ words space g. let a = c.args in
    let s = a.s.now in
    not_admitted a.standing a.codes.now words s space g _ c.ended.ensures (ap (λ (b : Bool). eqb (length s % 5) 0 && b) (sym c.all_digits.ensures) ∙ c.if-s-all_digits.false)
