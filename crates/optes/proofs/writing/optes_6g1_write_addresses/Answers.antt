-- `optes::writing::optes_6g1_write_addresses` meets its contract: the addresses are those that the host names. Assumes nothing.
use mathlib.Core.Path.{ap₂, ◌∙◌}
use mathlib.Core.List.{List, [], ◌∷◌}
use Prim.Native.Nat.{ℕ}
use Rattle.addresses.specs.declared.Address.{Address}
use Rattle.envelope.specs.Application.{write}
use Rattle.optes.specs.Interface.{answered, application_of}
use Rattle.optes.proofs.writing.optes_6g1_write_addresses.Goals as goal

pub returns : goal.returns
returns c =
    let told : Address → Address → ℕ × List ℕ = λ from to. let a = c.args in
    answered
    (write
    (application_of from to a.cro a.date a.time a.check (a.rate0 ∷ a.rate1 ∷ a.rate2 ∷ a.rate3 ∷ a.rate4 ∷ a.rate5 ∷ a.rate6 ∷ a.rate7 ∷ a.rate8 ∷ a.rate9 ∷ []) (a.amount0 ∷ a.amount1 ∷ a.amount2 ∷ a.amount3 ∷ a.amount4 ∷ a.amount5 ∷ a.amount6 ∷ a.amount7 ∷ a.amount8 ∷ a.amount9 ∷ []))
    a.kind.now
    a.identifier.now
    a.name.now
    a.space.now) in
    let start = c in
    c.written.ensures ∙ ap₂ told c.address-from.ensures c.address-to.ensures
