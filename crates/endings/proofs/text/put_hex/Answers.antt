-- `endings::text::put_hex` meets its contract. Assumes nothing.
use mathlib.Core.Path.{ap₂}
use mathlib.Core.List.{[], ◌∷◌}
use Prim.Native.Nat.{ℕ}
use native.Mathlib.Omega.{arith}
use Rattle.output.proofs.Output.{then, said}
use Rattle.endings.proofs.text.put_hex.Goals as goal

pub returns : goal.returns
returns c =
    let first = c.put_byte-second in
    let second = c.put_byte in
    let one = first.ensures.past in
    let two = second.ensures.past in
    (said (ap₂ (λ (x y : ℕ). x ∷ y ∷ []) c.hex_digit.ensures c.hex_digit-2.ensures) (then (omega arith) first.ensures second.ensures), omega (arith, one, two))
