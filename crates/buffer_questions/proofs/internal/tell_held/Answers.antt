-- `buffer_questions::internal::tell_held` meets its contract. Assumes nothing.
use mathlib.Core.Path.{ap, ◌∙◌}
use mathlib.Core.List.{List}
use mathlib.Core.Option as maybe
use Prim.Native.Nat.{ℕ}
use native.Mathlib.Omega.{arith}
use lib.ListN.{replicate}
use Rattle.book.specs.Viewed.{entry_at, index_of}
use Rattle.book.proofs.Joining.{index_below}
use Rattle.numbers.specs.Numbers.{in_array}
use Rattle.numbers.proofs.Arrays.{written_only}
use Rattle.buffer.specs.Words.{book_in}
use Rattle.buffer.proofs.Words.{known}
use Rattle.buffer_questions.specs.Told.{held_numbers}
use Rattle.buffer_questions.proofs.Held.{found-entry, absent_entry}
use Rattle.buffer_questions.proofs.internal.tell_held.Goals.{in-Some, in_default}
use Rattle.buffer_questions.proofs.internal.tell_held.Goals as goal

pub put_held-requires : goal.put_held-requires
put_held-requires c =
    let ws = c.args.words.now in
    let below = index_below (book_in ws) c.args.code c.find.result c.find.ensures in
    (omega arith, (known ws c.requires).long, omega (arith, below, ap index_of c.in-Some.is))

pub returns : goal.returns
unfolding held_numbers
returns c =
    let b = book_in c.args.words.now in
    let told = ap (λ (l : List ℕ). in_array l c.args.told.now) in
    c.put_first.ensures
    ∙ elim c.match-find.branch [
      | in-Some w ↦
          let all = written_only (held_numbers (maybe.some (entry_at b w.in-Some.at))) (replicate 23 0) (omega (arith, w.put_held.ensures.0.past, w.put_held.ensures.1)) w.put_held.ensures.0 in
          told (w.all-is ∙ all ∙ ap held_numbers (found-entry b c.args.code c.find.result c.find.ensures w.in-Some.at w.in-Some.is))
      | in_default w ↦ told (w.all-is ∙ ap held_numbers (absent_entry b c.args.code c.find.result c.find.ensures w.in_default.is))
    ]
