-- `layout::starts_at` meets its contract. Assumes nothing.
use native.Mathlib.Omega.{arith}
use Rattle.layout.specs.Fields.{entry}
use Rattle.layout.proofs.Fields.{short_at, other_at, is_at, wrong_length}
use Rattle.layout.proofs.starts_at.Goals as goal

pub returns-then-m-at-lt3 : goal.returns-then-m-at-lt3
returns-then-m-at-lt3 c =
    let a = c.args in
    short_at (entry a.tag a.short a.long) a.m.now a.at (omega arith)

pub returns-then-m-at : goal.returns-then-m-at
returns-then-m-at c =
    let a = c.args in
    other_at (entry a.tag a.short a.long) a.m.now a.at c.if-m-at.true

pub returns-then-n-short : goal.returns-then-n-short
returns-then-n-short c =
    let a = c.args in
    let n = c.length_at-n in
    is_at a.tag a.short a.long a.m.now a.at n.result n.ensures.0 c.if-m-at.false c.if-n-short.true

pub returns-else-n-short : goal.returns-else-n-short
returns-else-n-short c =
    let a = c.args in
    let n = c.length_at-n in
    wrong_length a.tag a.short a.long a.m.now a.at n.result n.ensures.0 c.if-m-at.false c.if-n-short.false
