-- `session_fields::internal::code_at` meets its contract. Assumes nothing.
use mathlib.Core.Path.{ap, ◌∙◌}
use native.Mathlib.Omega.{arith}
use Rattle.digits.specs.Decimal.{number_in}
use Rattle.session_fields.proofs.Codes.{code-part, code_below}
use Rattle.session_fields.proofs.internal.code_at.Goals as goal

pub overflow_cast-result : goal.overflow_cast-result
overflow_cast-result c =
    let e = c.unwrap_or.ensures ∙ ap number_in c.number.ensures in
    let start = c in
    let b = code_below start.args.s.now start.args.at start.requires.at_in_bounds start.requires.s_value in
    omega (arith, e, b)

pub returns : goal.returns
returns c =
    let start = c in
    c.unwrap_or.ensures ∙ ap number_in c.number.ensures ∙ code-part start.args.s.now start.args.at
