-- `buffer_questions::internal::tell_column` meets its contract. Assumes nothing.
use mathlib.Core.Path.{ap, ◌∙◌}
use mathlib.Core.List.{List}
use Prim.Native.Nat.{ℕ, ◌+◌, ◌-◌}
use borrow.Author.Rules.{rules}
use native.Mathlib.Omega.{arith}
use lib.ListN.{drop, get_or, length-drop}
use lib.Seq.{length-take-le}
use Rattle.numbers.specs.Numbers.{in_array}
use Rattle.output.proofs.Output.{said}
use Rattle.numbers.proofs.Arrays.{map_same, and_then}
use Rattle.buffer.proofs.Words.{Known, known}
use Rattle.buffer_questions.proofs.Codes.{column_told}
use Rattle.buffer_questions.proofs.internal.tell_column.Goals as goal

pub bounds-words-2 : goal.bounds-words-2
bounds-words-2 c =
    let known_there : Known c.args.words.now = known c.args.words.now c.requires.0 in
    omega (arith, known_there.long)

pub bounds-words-2-2 : goal.bounds-words-2-2
bounds-words-2-2 c =
    let known_there : Known c.args.words.now = known c.args.words.now c.requires.0 in
    omega (arith, known_there.long)

pub overflow_add-from : goal.overflow_add-from
overflow_add-from c =
    let known_there : Known c.args.words.now = known c.args.words.now c.requires.0 in
    omega (arith, known_there.few-codes, c.requires.1)

pub slice_bounds-put_each-end-2 : goal.slice_bounds-put_each-end-2
slice_bounds-put_each-end-2 c =
    let known_there : Known c.args.words.now = known c.args.words.now c.requires.0 in
    omega (arith, known_there.long, known_there.few-codes, c.requires.1)

pub put_each-requires : goal.put_each-requires
put_each-requires c =
    let known_there : Known c.args.words.now = known c.args.words.now c.requires.0 in
    let start = c in
    let ws = start.args.words.now in
    let from = start.args.from in
    let n = get_or ws 2 0 in
    let known = known_there in
    let long = length-take-le (from + n - from) (drop from ws) (omega (arith, length-drop from ws, known.long, known.few-codes, start.requires.1)) in
    omega (arith, long, known.few-codes, c.put-column_at.ensures.past)

pub returns : goal.returns
returns c =
    let known_there : Known c.args.words.now = known c.args.words.now c.requires.0 in
    let start = c in
    let a = start.args in
    let all = column_told a.words.now a.from known_there start.requires.1 (and_then c.put-column_at.ensures (said (map_same _) (c.put_each.ensures.wrote (λ n. n) (λ n k e. search rules)))) in
    c.put_first.ensures ∙ ap (λ (l : List ℕ). in_array l a.told.now) all
