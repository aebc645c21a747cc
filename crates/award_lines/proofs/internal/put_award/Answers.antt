-- `award_lines::internal::put_award` meets its contract: six writes, chained. Assumes nothing.
use borrow.Author.Rules.{rules}
use native.Mathlib.Omega.{arith}
use Rattle.output.proofs.Output.{then}
use Rattle.log_rules.specs.Lines.{award_line}
use Rattle.award_lines.proofs.internal.put_award.Goals as goal

pub returns : goal.returns
unfolding award_line
returns c =
    let end = c in
    let award = end in
    let second = award in
    let rate = second in
    let first = rate in
    let place = first in (
      then (omega arith)
          (then (omega arith)
          (then (omega arith) (then (omega arith) (then (omega arith) place.put_place-first.ensures.0 first.put_byte-number.ensures) rate.put_digits-second.ensures.0) second.put_byte-cents.ensures)
          award.put_digits-end.ensures.0)
          end.put_byte.ensures,
      search rules,
    )
