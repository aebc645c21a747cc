-- `places::internal::put_place` meets its contract: three words, chained. Assumes nothing.
use borrow.Author.Rules.{rules}
use mathlib.Core.Path.{sym, ap, ◌∙◌}
use mathlib.Core.List.{◌∷◌, ◌++◌}
use Prim.Native.Nat.{ℕ, ◌/◌, ◌%◌}
use native.Mathlib.Omega.{arith}
use Rattle.output.proofs.Output.{then, said}
use Rattle.digits.specs.Decimal.{digits}
use Rattle.places.specs.Bids.{slash}
use Rattle.places.proofs.Writing.{place-words}
use Rattle.places.proofs.internal.put_place.Goals as goal

pub returns-then-amount-eq0 : goal.returns-then-amount-eq0
returns-then-amount-eq0 c =
    let last = c in
    let middle = last in
    let first = middle in
    let a = first.args in
    let e = ap (λ (x : ℕ). digits 8 a.rate.0 ++ (slash ∷ digits 7 (x / 100000000)) ++ digits 8 (x % 100000000)) (sym middle.if-amount-eq0.true) in
    (said (e ∙ place-words a.rate a.amount) (then (omega arith) (then (omega arith) first.put_eight-slash.ensures.0 middle.put_seven-last.ensures.0) last.put_eight.ensures.0), search rules)

pub returns : goal.returns
returns c =
    let last = c in
    let middle = last in
    let first = middle in
    (said (place-words _ _) (then (omega arith) (then (omega arith) first.put_eight-slash.ensures.0 middle.put_seven-last-2.ensures.0) last.put_eight-2.ensures.0), search rules)
