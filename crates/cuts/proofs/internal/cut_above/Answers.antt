-- `cuts::internal::cut_above` meets its contract. Assumes nothing.
use Rattle.bids.specs.Columns as columns
use Rattle.cuts.proofs.Above.{fits, cut_out, cut_down}
use Rattle.cuts.proofs.internal.cut_above.Goals as goal

pub returns-then-b-left : goal.returns-then-b-left
returns-then-b-left c = let a = c.args in fits a.left (columns.viewed a.b) c.if-b-left.true

pub returns-then-left-eq0 : goal.returns-then-left-eq0
returns-then-left-eq0 c =
    let a = c.args in
    cut_out a.left (columns.viewed a.b) c.if-b-left.false c.if-left-eq0.true

pub returns : goal.returns
returns c =
    let a = c.args in
    cut_down a.left (columns.viewed a.b) c.if-b-left.false c.if-left-eq0.false
