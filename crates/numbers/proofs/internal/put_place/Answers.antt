-- `numbers::internal::put_place` meets its contract. Assumes nothing.
use mathlib.Core.Path.{ap₂, ◌∙◌}
use mathlib.Core.List.{[], ◌∷◌}
use Prim.Native.Nat.{ℕ}
use Rattle.output.proofs.Output.{said}
use Rattle.numbers.specs.Numbers.{place_numbers}
use Rattle.numbers.proofs.Arrays.{flag_is}
use Rattle.numbers.proofs.internal.put_place.Goals as goal

pub returns : goal.returns
unfolding place_numbers
returns c =
    let p = c.args.p in
    let w = c.put_three.ensures in
    (said (ap₂ (λ (r n : ℕ). r ∷ p.amount.0 ∷ n ∷ []) c.from.ensures (c.from-2.ensures ∙ flag_is p.formed)) w, w.past)
