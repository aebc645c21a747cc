-- `endings::past_field` meets its contract. Assumes nothing.
use mathlib.Core.Path.{sym, ap, ◌∙◌}
use mathlib.Core.Bool.{not}
use Prim.Native.Nat.{◌+◌}
use native.Mathlib.Omega.{arith}
use borrow.Author.Tests.{lt-leb}
use lib.ListN.{length, drop, length-drop}
use Rattle.layout.specs.Fields.{length_at}
use Rattle.log_rules.proofs.Walks.{no_head, with_head}
use Rattle.endings.proofs.Left.{unheld, goes_on_at}
use Rattle.endings.proofs.past_field.Goals as goal

pub returns-then-input-at-lt3-clause-whether : goal.returns-then-input-at-lt3-clause-whether
returns-then-input-at-lt3-clause-whether c =
    let a = c.args in
    let d = length-drop a.at a.input.now in
    sym (unheld (drop a.at a.input.now) (no_head (drop a.at a.input.now) (omega arith)))

pub returns-then-input-end-clause-whether : goal.returns-then-input-end-clause-whether
returns-then-input-end-clause-whether c =
    let a = c.args in
    let s = drop a.at a.input.now in
    let d = length-drop a.at a.input.now in
    let n = c.length_at.ensures.0 in
    sym (unheld s (with_head s (omega arith) ∙ lt-leb (3 + length_at s) (length s) (omega arith)))

pub returns-then-ends_log-clause-whether : goal.returns-then-ends_log-clause-whether
returns-then-ends_log-clause-whether c =
    let a = c.args in
    let n = c.length_at in
    let d = length-drop a.at a.input.now in
    ap not (sym c.if-ends_log.true) ∙ ap not c.ends_log.ensures ∙ goes_on_at a.input.now a.at n.result n.ensures.0 (omega arith)

pub returns-clause-whether : goal.returns-clause-whether
returns-clause-whether c =
    let a = c.args in
    let n = c.length_at in
    let d = length-drop a.at a.input.now in
    ap not (sym c.if-ends_log.false) ∙ ap not c.ends_log.ensures ∙ goes_on_at a.input.now a.at n.result n.ensures.0 (omega arith)
