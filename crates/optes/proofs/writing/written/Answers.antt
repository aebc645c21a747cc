-- `optes::writing::written` meets its contract: a rate of over 32 bits is refused, and others are held whole. Assumes nothing.
use borrow.Author.Tests.{not-true, not-false}
use mathlib.Core.Bool.{true}
use mathlib.Core.List.{List, [], ◌∷◌}
use Prim.Native.Nat.{ℕ}
use native.Mathlib.Omega.{arith}
use Rattle.envelope.specs.declared.application.Application.{Application}
use Rattle.optes.specs.Interface.{application_of}
use Rattle.optes.proofs.Rates.{within, wide-refused, held-write}
use Rattle.optes.proofs.writing.written.Goals as goal

pub returns-then-not-rate0-rate1 : goal.returns-then-not-rate0-rate1
unfolding within
returns-then-not-rate0-rate1 c =
    let rates : List ℕ = c.args.rate0 ∷ c.args.rate1 ∷ c.args.rate2 ∷ c.args.rate3 ∷ c.args.rate4 ∷ c.args.rate5 ∷ c.args.rate6 ∷ c.args.rate7 ∷ c.args.rate8 ∷ c.args.rate9 ∷ [] in
    let built : Application = let a = c.args in
    application_of a.from a.to a.cro a.date a.time a.check rates (a.amount0 ∷ a.amount1 ∷ a.amount2 ∷ a.amount3 ∷ a.amount4 ∷ a.amount5 ∷ a.amount6 ∷ a.amount7 ∷ a.amount8 ∷ a.amount9 ∷ []) in
    let start = c in
    let a = start.args in
    wide-refused built rates a.kind.now a.identifier.now a.name.now a.space.now (omega arith) (not-true (within true rates) c.if-not-rate0-rate1.true-raw)

pub returns : goal.returns
unfolding within
returns c =
    let rates : List ℕ = c.args.rate0 ∷ c.args.rate1 ∷ c.args.rate2 ∷ c.args.rate3 ∷ c.args.rate4 ∷ c.args.rate5 ∷ c.args.rate6 ∷ c.args.rate7 ∷ c.args.rate8 ∷ c.args.rate9 ∷ [] in
    let built : Application = let a = c.args in
    application_of a.from a.to a.cro a.date a.time a.check rates (a.amount0 ∷ a.amount1 ∷ a.amount2 ∷ a.amount3 ∷ a.amount4 ∷ a.amount5 ∷ a.amount6 ∷ a.amount7 ∷ a.amount8 ∷ a.amount9 ∷ []) in
    let start = c in
    let a = start.args in
    let e0 = c.rate.ensures in
    let e1 = c.rate-2.ensures in
    let e2 = c.rate-3.ensures in
    let e3 = c.rate-4.ensures in
    let e4 = c.rate-5.ensures in
    let e5 = c.rate-6.ensures in
    let e6 = c.rate-7.ensures in
    let e7 = c.rate-8.ensures in
    let e8 = c.rate-9.ensures in
    let e9 = c.rate-10.ensures in
    held-write built rates a.kind.now a.identifier.now a.name.now a.space.now (not-false (within true rates) c.if-not-rate0-rate1.false-raw) (λ i. e0 i ∷ e1 i ∷ e2 i ∷ e3 i ∷ e4 i ∷ e5 i ∷ e6 i ∷ e7 i ∷ e8 i ∷ e9 i ∷ []) c.write.ensures c.number.ensures
