-- `digits::internal::put_digits` meets its contract. Assumes nothing.
use borrow.Author.Rules.{rules}
use mathlib.Core.Path.{◌≡◌, refl, ap, ◌∙◌}
use Prim.Native.Nat.{ℕ, ◌+◌, ◌-◌}
use native.Mathlib.Omega.{arith}
use lib.ListN.{length, take, drop}
use Rattle.output.proofs.Output.{part_back, length_part}
use Rattle.digits.specs.Decimal.{digits}
use Rattle.digits.proofs.Writing.{length_digits}
use Rattle.digits.proofs.internal.put_digits.Goals as goal

pub returns : goal.returns
returns c =
    let a = c.args in
    let k : length (take (a.at + a.w - a.at) (drop a.at a.space.now)) ≡ a.w = length_part a.space.now a.at a.w (omega arith) in
    let e : c.fill.new.part ≡ digits a.w a.n = c.fill.ensures ∙ ap (λ (j : ℕ). digits j a.n) k in
    (record { bytes = rw e (part_back a.space.now a.at a.w (digits a.w a.n) (length_digits a.w a.n)); past = rw length_digits refl }, search rules)
