-- `buffer_questions::internal::put_time` meets its contract. Assumes nothing.
use mathlib.Core.Path.{◌≡◌, sym, ap}
use mathlib.Core.Bool.{Bool, true, false, cond}
use mathlib.Core.List.{◌∷◌}
use mathlib.Core.Option.{none, some}
use native.Mathlib.Omega.{arith}
use lib.Dec.{ltb}
use borrow.Author.Tests.{lt-ltb, le-ltb}
use Rattle.output.proofs.Output.{said}
use Rattle.buffer_questions.specs.Told.{time_numbers}
use Rattle.buffer_questions.proofs.internal.put_time.Goals as goal

pub returns-then-flag-eq0 : goal.returns-then-flag-eq0
returns-then-flag-eq0 c =
    let a = c.args in
    let w = c.put_three.ensures in
    let flag : ltb 0 a.flag ≡ false = le-ltb 0 a.flag (omega arith) in
    (said (ap (λ (t : Bool). 1 ∷ time_numbers (cond t (some a.time) none)) (sym flag)) w, w.past)

pub returns : goal.returns
returns c =
    let a = c.args in
    let w = c.put_three-2.ensures in
    let flag : ltb 0 a.flag ≡ true = lt-ltb 0 a.flag (omega arith) in
    (said (ap (λ (t : Bool). 1 ∷ time_numbers (cond t (some a.time) none)) (sym flag)) w, w.past)
