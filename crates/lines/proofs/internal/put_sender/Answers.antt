-- `lines::internal::put_sender` meets its contract. Assumes nothing.
use borrow.Author.Rules.{rules}
use mathlib.Core.Path.{ap}
use mathlib.Core.List.{List, ◌++◌}
use Prim.Native.Nat.{ℕ}
use native.Mathlib.Omega.{arith}
use Rattle.output.proofs.Output.{then, said}
use Rattle.texts.specs.Texts.{ascii}
use Rattle.lines.proofs.internal.put_sender.Goals as goal

pub returns : goal.returns
returns c =
    let text = c in
    let start = text in
    let sender = start in
    (said (ap (λ (x : List ℕ). ascii " " ++ x) sender.sender_code-sender.ensures.0) (then (omega arith) start.put_byte-start.ensures text.put.ensures), search rules)
