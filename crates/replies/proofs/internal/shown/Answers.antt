-- `replies::internal::shown` meets its contract. Assumes nothing.
use borrow.Author.Rules.{rules}
use mathlib.Core.Path.{◌≡◌, sym, ◌∙◌}
use mathlib.Core.List.{map}
use native.Mathlib.Omega.{arith}
use lib.ListN.{length, take, length-map}
use lib.Seq.{length-take-le}
use Rattle.errors.specs.Listed.{named}
use Rattle.replies.proofs.Texts.{shown-few, shown_many}
use Rattle.replies.proofs.internal.shown.Goals as goal

pub returns-then-e-le5 : goal.returns-then-e-le5
returns-then-e-le5 c =
    let e = c.args.e in
    let k : length e.codes ≡ 16 = search rules in
    let l : length (map named (take e.n e.codes)) ≡ e.n = length-map (take e.n e.codes) named ∙ length-take-le e.n e.codes (omega arith) in
    (sym (shown-few (map named (take e.n e.codes)) (omega arith)), omega arith)

pub returns : goal.returns
returns c =
    let e = c.args.e in
    let k : length e.codes ≡ 16 = search rules in
    (shown_many e.codes e.n (omega arith) (omega arith), omega arith)
