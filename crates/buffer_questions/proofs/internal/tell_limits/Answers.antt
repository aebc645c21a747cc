-- `buffer_questions::internal::tell_limits` meets its contract. Assumes nothing.
use mathlib.Core.Path.{sym, ap, ◌∙◌}
use mathlib.Core.List.{List}
use Prim.Native.Nat.{ℕ}
use native.Mathlib.Omega.{arith}
use Rattle.numbers.specs.Numbers.{in_array}
use Rattle.buffer.proofs.Words.{known}
use Rattle.buffer_questions.proofs.Codes.{limits_are}
use Rattle.buffer_questions.specs.Told.{counted_numbers}
use borrow.Author.Rules.{rules}
use Rattle.buffer_questions.proofs.internal.tell_limits.Goals as goal

pub tell_column-requires : goal.tell_column-requires
tell_column-requires c = (search rules, omega arith)

pub returns : goal.returns
returns c =
    let start = c in
    let ws = start.args.words.now in
    c.tell_column.ensures ∙ ap (λ (l : List ℕ). in_array (counted_numbers l) start.args.told.now) (sym (limits_are ws (known ws start.requires)))
