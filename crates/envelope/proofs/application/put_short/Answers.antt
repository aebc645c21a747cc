-- `envelope::application::put_short` meets its contract: the head covers the digits that are too many. Assumes nothing.
use borrow.Author.Rules.{rules}
use mathlib.Core.Path.{refl}
use Prim.Native.Nat.{◌+◌, ◌-◌}
use native.Mathlib.Omega.{arith}
use Rattle.output.proofs.Output.{said}
use Rattle.layout.specs.Fields.{head}
use Rattle.envelope.proofs.Writing.{number-field, short_digits}
use Rattle.envelope.proofs.application.put_short.Goals as goal

pub returns : goal.returns
returns c =
    let first = c in
    let eight = first in
    let start = eight in
    let a = start.args in
    (said (number-field a.tag a.w a.n) (short_digits a.space.now a.at a.w a.n (a.at + a.w - 5) (head a.tag a.w) refl start.requires.0 start.requires.1 start.requires.3 (omega (arith, start.requires.0)) eight.put_eight-end.ensures.0 first.put_head.ensures), search rules)
