-- `lines::internal::put_clock` meets its contract. Assumes nothing.
use borrow.Author.Rules.{rules}
use Prim.Native.Nat.{zero-le}
use Rattle.output.proofs.Output.{then}
use Rattle.lines.proofs.internal.put_clock.Goals as goal

pub returns : goal.returns
returns c =
    let kind = c.put_byte-first in
    let blank = c.put_byte-date in
    let date = c.put-second in
    let second = c.put_byte-time in
    let time = c.put in
    (then zero-le (then zero-le (then zero-le (then zero-le kind.ensures blank.ensures) date.ensures) second.ensures) time.ensures, search rules)
