-- `buffer_questions::internal::put_held` meets its contract. Assumes nothing.
use borrow.Author.Rules.{rules}
use native.Mathlib.Omega.{arith}
use Rattle.output.proofs.Output.{said}
use Rattle.numbers.proofs.Arrays.{map_same, and_then}
use Rattle.buffer.specs.Words.{low32}
use Rattle.buffer_questions.proofs.Held.{held-joined, rates_long, amounts_long}
use Rattle.buffer_questions.proofs.internal.put_held.Goals as goal

pub returns : goal.returns
returns c =
    let ws = c.args.words.now in
    let at = c.args.at in
    let rates = c.put_each-amounts_at.ensures.wrote low32 (λ n k e. search rules) in
    let amounts = said (map_same _) (c.put_each.ensures.wrote (λ n. n) (λ n k e. search rules)) in (
      said (held-joined ws c.requires.1 at c.requires.2) (and_then (and_then c.put_time-rates_at.ensures.0 rates) amounts),
      omega (arith, rates_long ws c.requires.1 at c.requires.2, amounts_long ws c.requires.1 at c.requires.2, c.put_time-rates_at.ensures.1, c.put_each-amounts_at.ensures.past, c.put_each.ensures.past),
    )
