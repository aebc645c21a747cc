-- `endings::internal::put_why` meets its contract. Assumes nothing.
use mathlib.Core.Path.{sym, ◌∙◌}
use native.Mathlib.Omega.{arith}
use borrow.Author.Tests.{not-true, not-false}
use Rattle.output.proofs.Output.{said}
use Rattle.endings.proofs.Why.{why_tag, why_cut, why_missing, why_field}
use Rattle.endings.proofs.internal.put_why.Goals as goal

pub returns-then-not-is_tag : goal.returns-then-not-is_tag
returns-then-not-is_tag c =
    let text = c.put_tag in
    let s = c.args.left.now in
    let tag = sym c.is_tag.ensures ∙ not-true _ c.if-not-is_tag.true-raw in
    (said (sym (why_tag s tag)) text.ensures.0, text.ensures.1)

pub returns-then-left-lt3 : goal.returns-then-left-lt3
returns-then-left-lt3 c =
    let text = c.put in
    let s = c.args.left.now in
    let tag = sym c.is_tag.ensures ∙ not-false _ c.if-not-is_tag.false-raw in
    (said (sym (why_cut s tag (omega arith))) text.ensures, omega (arith, text.ensures.past))

pub returns-then-left-n : goal.returns-then-left-n
returns-then-left-n c =
    let text = c.put_missing in
    let s = c.args.left.now in
    let tag = sym c.is_tag.ensures ∙ not-false _ c.if-not-is_tag.false-raw in
    let n = c.length_at-n.ensures.0 in
    (said (sym (why_missing s tag _ n (omega arith) (omega arith))) text.ensures.0, text.ensures.1)

pub returns : goal.returns
returns c =
    let text = c.put_field_why in
    let s = c.args.left.now in
    let tag = sym c.is_tag.ensures ∙ not-false _ c.if-not-is_tag.false-raw in
    let n = c.length_at-n.ensures.0 in
    (said (sym (why_field s tag _ n (omega arith) (omega arith))) text.ensures.0, text.ensures.1)
