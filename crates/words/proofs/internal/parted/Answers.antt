-- `words::internal::parted` meets its contract: a number is parted into fours, pairs and digits. Assumes nothing.
use Rattle.std.proofs.Common.{◌*◌, ◌/◌, arith}
use lib.Bits.{and_le_r}
use Rattle.words.proofs.Adding.{eight_of_lem, eight_max}
use Rattle.words.proofs.Parting.{fours_in, pairs_in, hundreds_fit, pairs_fit, tens_fit, parted_digits, parted_number}
use Rattle.words.proofs.internal.parted.Goals as goal

pub overflow_mul-p-3 : goal.overflow_mul-p-3
overflow_mul-p-3 c = let m = and_le_r (fours_in c.args.n * 10486 / 1048576) 545460846719 in omega arith

pub overflow_sub-p : goal.overflow_sub-p
overflow_sub-p c = hundreds_fit c.args.n c.requires

pub overflow_mul-result : goal.overflow_mul-result
overflow_mul-result c = let m = pairs_fit c.args.n c.requires in omega arith

pub overflow_mul-result-2 : goal.overflow_mul-result-2
overflow_mul-result-2 c = let m = pairs_fit c.args.n c.requires in omega arith

pub overflow_mul-result-3 : goal.overflow_mul-result-3
overflow_mul-result-3 c = let m = and_le_r (pairs_in (fours_in c.args.n) * 103 / 1024) 4222189076152335 in omega arith

pub overflow_sub-result : goal.overflow_sub-result
overflow_sub-result c = tens_fit c.args.n c.requires

pub returns : goal.returns
returns c =
    let small = parted_digits c.args.n c.requires in
    let m = pairs_fit c.args.n c.requires in
    record {
      small = small;
      number = parted_number c.args.n c.requires;
      most = eight_max _ (eight_of_lem _ (omega arith) small);
    }
