-- `endings::ends_log` meets its contract. Assumes nothing.
use mathlib.Core.Path.{refl, ap, ◌∙◌}
use mathlib.Core.Bool.{Bool, not, ◌&&◌}
use Prim.Native.Nat.{◌%◌}
use borrow.Author.Tests.{ne_eqb}
use lib.Dec.{eqb}
use lib.ListN.{length}
use Rattle.endings.specs.Endings.{ends_log}
use Rattle.endings.proofs.Ending.{not_groups}
use Rattle.endings.proofs.ends_log.Goals as goal

pub returns-in-160 : goal.returns-in-160
unfolding ends_log
returns-in-160 c =
    let s = c.args.s.now in
    rw c.in-160.is (ap (λ (b : Bool). not (eqb (length s % 5) 0 && b)) c.all_digits.ensures ∙ not_groups s)

pub returns-in-161 : goal.returns-in-161
unfolding ends_log
returns-in-161 c = rw c.in-161.is refl

pub returns-in-162 : goal.returns-in-162
unfolding ends_log
returns-in-162 c = rw c.in-162.is refl

pub returns-in-163 : goal.returns-in-163
unfolding ends_log
returns-in-163 c = rw c.in-163.is refl

pub returns-in-164 : goal.returns-in-164
unfolding ends_log
returns-in-164 c = rw c.in-164.is refl

pub returns-in-165 : goal.returns-in-165
unfolding ends_log
returns-in-165 c = rw c.in-165.is refl

pub returns-in_default : goal.returns-in_default
unfolding ends_log
returns-in_default c =
    let tag = c.args.tag in
    let rest = c.in_default.in_default-own.rest in
    rw (ne_eqb tag 160 rest.0.0.0.0.0.1, ne_eqb tag 161 rest.0.0.0.0.1, ne_eqb tag 162 rest.0.0.0.1, ne_eqb tag 163 rest.0.0.1, ne_eqb tag 164 rest.0.1, ne_eqb tag 165 rest.1) refl
