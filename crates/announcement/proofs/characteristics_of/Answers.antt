-- `announcement::characteristics_of` meets its contract: each part is missing, or all are there. Assumes nothing.
use mathlib.Core.Path.{◌≡◌, sym, ◌∙◌}
use mathlib.Core.List.{[], ◌∷◌}
use native.Mathlib.Omega.{arith}
use Rattle.std.proofs.Common.{Some}
use Rattle.announcement.specs.Parts.{part}
use Rattle.announcement.proofs.Parts.{limit-fits, no_slashes, part_missing, all_there}
use Rattle.announcement.proofs.characteristics_of.Goals as goal

pub returns-then-not-slashes_stand : goal.returns-then-not-slashes_stand
returns-then-not-slashes_stand c = no_slashes c.args.s.now c.requires (sym c.slashes_stand.ensures ∙ c.if-not-slashes_stand.true)

pub returns-in_err-execution : goal.returns-in_err-execution
returns-in_err-execution c = c.from_residual.ensures ∙ part_missing c.args.s.now c.requires 0 (omega arith) (sym c.in_err-execution.ensures)

pub returns-in_err-most : goal.returns-in_err-most
returns-in_err-most c = c.from_residual-in_err-most.ensures ∙ part_missing c.args.s.now c.requires 1 (omega arith) (sym c.in_err-most.ensures)

pub returns-in_err-offered : goal.returns-in_err-offered
returns-in_err-offered c = c.from_residual-in_err-offered.ensures ∙ part_missing c.args.s.now c.requires 2 (omega arith) (sym c.in_err-offered.ensures)

pub returns-in_err-minimum : goal.returns-in_err-minimum
returns-in_err-minimum c = c.from_residual-in_err-minimum.ensures ∙ part_missing c.args.s.now c.requires 3 (omega arith) (sym c.in_err-minimum.ensures)

pub returns-in_err-increment : goal.returns-in_err-increment
returns-in_err-increment c = c.from_residual-in_err-increment.ensures ∙ part_missing c.args.s.now c.requires 4 (omega arith) (sym c.in_err-increment.ensures)

pub returns-in_err-maximum : goal.returns-in_err-maximum
returns-in_err-maximum c = c.from_residual-in_err-maximum.ensures ∙ part_missing c.args.s.now c.requires 5 (omega arith) (sym c.in_err-maximum.ensures)

pub returns-in_err-allocation : goal.returns-in_err-allocation
returns-in_err-allocation c = c.from_residual-in_err-allocation.ensures ∙ part_missing c.args.s.now c.requires 6 (omega arith) (sym c.in_err-allocation.ensures)

pub returns-in_err-limit : goal.returns-in_err-limit
returns-in_err-limit c = c.from_residual-in_err-limit.ensures ∙ part_missing c.args.s.now c.requires 7 (omega arith) (sym c.in_err-limit.ensures)

pub overflow_cast-result : goal.overflow_cast-result
overflow_cast-result c = omega (arith, limit-fits c.args.s.now c.in_ok-limit.limit c.requires c.in_ok-limit.ensures)

pub returns : goal.returns
returns c =
    let execution : Some c.in_ok-execution.execution ≡ part 0 8 c.args.s.now = c.in_ok-execution.ensures in
    let most : Some c.in_ok-most.most ≡ part 9 11 c.args.s.now = c.in_ok-most.ensures in
    let offered : Some c.in_ok-offered.offered ≡ part 12 27 c.args.s.now = c.in_ok-offered.ensures in
    let minimum : Some c.in_ok-minimum.minimum ≡ part 28 43 c.args.s.now = c.in_ok-minimum.ensures in
    let increment : Some c.in_ok-increment.increment ≡ part 44 59 c.args.s.now = c.in_ok-increment.ensures in
    let maximum : Some c.in_ok-maximum.maximum ≡ part 60 75 c.args.s.now = c.in_ok-maximum.ensures in
    let allocation : Some c.in_ok-allocation.allocation ≡ part 76 91 c.args.s.now = c.in_ok-allocation.ensures in
    let limit : Some c.in_ok-limit.limit ≡ part 92 100 c.args.s.now = c.in_ok-limit.ensures in
    all_there c.args.s.now c.requires (c.in_ok-execution.execution ∷ c.in_ok-most.most ∷ c.in_ok-offered.offered ∷ c.in_ok-minimum.minimum ∷ c.in_ok-increment.increment ∷ c.in_ok-maximum.maximum ∷ c.in_ok-allocation.allocation ∷ c.in_ok-limit.limit ∷ [])
    (λ i. execution i ∷ most i ∷ offered i ∷ minimum i ∷ increment i ∷ maximum i ∷ allocation i ∷ limit i ∷ [])
    (sym c.slashes_stand.ensures ∙ c.if-not-slashes_stand.false)
