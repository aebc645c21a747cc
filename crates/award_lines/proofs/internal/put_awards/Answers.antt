-- `award_lines::internal::put_awards` meets its contract. The loop's invariant: the lines of the first i awards are written. Assumes nothing.
use mathlib.Core.Path.{◌∙◌}
use mathlib.Core.List.{map}
use native.Mathlib.Omega.{arith}
use lib.ListN.{length-map}
use Rattle.output.proofs.Output.{then, said, nothing}
use Rattle.buffer.specs.Words.{low32}
use Rattle.award_lines.proofs.Places.{lines_from, lines_more, line_narrowed, lines-viewed}
use Rattle.award_lines.proofs.internal.put_awards.Goals as goal

pub loop-i-init : goal.loop-i-init
unfolding lines_from
loop-i-init c = (omega arith, nothing c.args.space.now 0)

pub loop-i-preserved : goal.loop-i-preserved
loop-i-preserved c =
    let a = c.args in
    let l = c.loop-i in (
      omega arith,
      said (lines_more a.codes.now (map low32 a.rates.now) a.awards.now l.i)
          (then (omega arith) l.invariant.1 (said (line_narrowed a.codes.now a.rates.now a.awards.now l.i _ c.narrow.ensures) c.put_if_any-at.ensures.0)),
    )

pub returns : goal.returns
returns c =
    let l = c.loop-i in
    let a = c.args in
    λ b amounts same alike.
    said (lines-viewed a.codes.now (map low32 a.rates.now) a.awards.now b amounts l.i (length-map a.rates.now low32 ∙ c.requires.rates_len) c.requires.awards_len (omega arith) same alike) l.invariant.1
