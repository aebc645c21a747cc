-- `places::internal::formed_place` meets its contract. Assumes nothing.
use native.Mathlib.Omega.{arith}
use Rattle.words.proofs.Adding.{eight_below}
use Rattle.places.proofs.internal.formed_place.Goals as goal

pub overflow_cast-result : goal.overflow_cast-result
overflow_cast-result c = let e = c.value.ensures in let b = eight_below c.args.rate (omega arith) c.requires.rate_value in omega arith

pub overflow_mul-result : goal.overflow_mul-result
overflow_mul-result c = let e = c.value-2.ensures in let b = eight_below c.args.high (omega arith) c.requires.high_value in omega arith

pub overflow_add-result : goal.overflow_add-result
overflow_add-result c =
    let e = c.value-2.ensures in
    let b = eight_below c.args.high (omega arith) c.requires.high_value in
    let d = c.value-3.ensures in
    let g = eight_below c.args.low (omega arith) c.requires.low_value in
    omega arith

pub returns : goal.returns
returns c = rw (c.value.ensures, c.value-2.ensures, c.value-3.ensures)
