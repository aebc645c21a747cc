-- `numbers::internal::put_number` meets its contract. Assumes nothing.
use mathlib.Core.Path.{ap, ◌∙◌}
use mathlib.Core.List.{[], ◌∷◌}
use native.Mathlib.Omega.{arith}
use Rattle.output.proofs.Output.{then, said}
use Rattle.numbers.specs.ByNumber.{flag}
use Rattle.numbers.specs.Numbers.{digit_numbers}
use Rattle.numbers.proofs.Arrays.{flag_is}
use Rattle.numbers.proofs.internal.put_number.Goals as goal

pub returns : goal.returns
unfolding digit_numbers
returns c =
    let w = then (omega arith) c.put-flag.ensures c.put.ensures in
    let n = c.unwrap_or.ensures in
    let f = c.from.ensures ∙ flag_is c.is_some.result ∙ ap flag c.is_some.ensures in
    (said (λ i. n i ∷ f i ∷ []) w, w.past)
