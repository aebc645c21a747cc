-- `journal::fields::holds_field` meets its contract. Assumes nothing.
use mathlib.Core.Path.{sym, ap, ap₂, ◌∙◌}
use Prim.Native.Nat.{ℕ, ◌+◌}
use native.Mathlib.Omega.{arith}
use lib.Dec.{leb}
use lib.ListN.{drop, length-drop}
use Rattle.log_rules.proofs.Walks.{no_head, with_head}
use Rattle.journal.proofs.fields.holds_field.Goals as goal

pub returns-then-input-at-lt3 : goal.returns-then-input-at-lt3
returns-then-input-at-lt3 c =
    let a = c.args in
    let d = length-drop a.at a.input.now in
    sym (no_head (drop a.at a.input.now) (omega arith))

pub returns : goal.returns
returns c =
    let a = c.args in
    let d = length-drop a.at a.input.now in
    sym (with_head (drop a.at a.input.now) (omega arith) ∙ ap₂ leb (ap (λ (n : ℕ). 3 + n) (sym c.length_at.ensures.0)) d)
