-- `cuts::any_capped` meets its contract. The loop's invariant: what is tested and what is left are the whole. Assumes nothing.
use mathlib.Core.Path.{refl, sym, ap, ◌∙◌}
use mathlib.Core.Bool.{Bool, ◌||◌}
use Prim.Native.Nat.{◌+◌}
use native.Mathlib.Omega.{arith}
use lib.ListN.{drop}
use Rattle.rules.specs.Cuts.{is_capped}
use Rattle.rules.specs.Opening.{any}
use Rattle.rules.proofs.Any.{any_more, any_end}
use Rattle.offer.specs.Viewed.{viewed}
use Rattle.cuts.proofs.any_capped.Goals as goal

pub loop-limit-init : goal.loop-limit-init
loop-limit-init c = refl

pub loop-limit-preserved : goal.loop-limit-preserved
loop-limit-preserved c =
    let a = c.args in
    let l = c.loop-limit in
    let p = is_capped (viewed a.o) in
    ap (λ (t : Bool). (l.found || t) || any p (drop (l.limit-index + 1) a.limits.now)) c.is_capped-found.ensures
    ∙ any_more p l.found a.limits.now l.limit-index 0 (omega arith)
    ∙ l.invariant

pub returns : goal.returns
returns c =
    let a = c.args in
    let l = c.loop-limit in
    sym (any_end (is_capped (viewed a.o)) l.found a.limits.now l.limit-index (omega arith)) ∙ l.invariant
