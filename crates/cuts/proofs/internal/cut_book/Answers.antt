-- `cuts::internal::cut_book` meets its contract. The loop's invariant: the bids passed are stored cut, in columns that keep their lengths. Assumes nothing.
use mathlib.Core.Path.{◌≡◌, refl, sym, ap, ◌∙◌}
use mathlib.Core.List.{List}
use Prim.Native.Nat.{ℕ, ◌+◌, ◌-◌, ◌*◌, ◌/◌}
use native.Mathlib.Omega.{arith}
use lib.ListN.{length, length-set, take, drop}
use Rattle.laws.proofs.Arrays.{fill_all}
use Rattle.rules.specs.Allotment.{Bid, total}
use Rattle.rules.specs.Cuts.{cut_book}
use Rattle.rules.proofs.Cuts.{length-book}
use Rattle.bids.specs.Columns.{bids_of, bids_in}
use Rattle.bids.specs.Columns as columns
use Rattle.bids.proofs.SideBySide.{length_of_lem}
use Rattle.offer.specs.Viewed.{viewed}
use Rattle.cuts.proofs.Places.{ten_at, length-ten, part_in_book, ten_le, cut_more}
use Rattle.cuts.proofs.internal.cut_book.Goals as goal

-- the part lent for the bid at i
part_is : (bs part : List Bid) (i : ℕ) → part ≡ take (10 * (i / 10) + 10 - 10 * (i / 10)) (drop (10 * (i / 10)) bs) → part ≡ ten_at (i / 10) bs
part_is bs part i e = e ∙ ap (λ (n : ℕ). take n (drop (10 * (i / 10)) bs)) (let ten : 10 * (i / 10) + 10 - 10 * (i / 10) ≡ 10 = omega arith in ten)

pub loop-i-init : goal.loop-i-init
loop-i-init c = (c.requires.cut_rates_len, c.requires.cut_amounts_len, refl)

pub cut_place-b-requires : goal.cut_place-b-requires
cut_place-b-requires c =
    let bs = bids_in c.args.bids in
    let i = c.loop-i.i in
    let ten = ap (λ (l : List Bid). length l) (part_is bs _ i c.part.ensures) ∙ length-ten (i / 10) bs (omega arith) in
    record { i_in_bounds = omega (arith, ten); amounts_bound = omega (arith, ap total (part_is bs _ i c.part.ensures), ten_le (i / 10) bs, c.requires.amounts_bound) }

pub loop-i-preserved : goal.loop-i-preserved
loop-i-preserved c =
    let a = c.args in
    let l = c.loop-i in
    let o = viewed a.o in
    let bs = bids_in a.bids in
    let old = bids_of a.cut_rates.now a.cut_amounts.now in
    let b = columns.viewed c.cut_place-b.result in
    let old_many = length_of_lem a.cut_rates.now a.cut_amounts.now (c.requires.cut_rates_len ∙ sym c.requires.cut_amounts_len) in
    let cut_many = length-book o a.limits.now bs in (
      length-set l.cut_rates l.i b.rate ∙ l.invariant.0,
      length-set l.cut_amounts l.i b.amount ∙ l.invariant.1,
      cut_more (cut_book o a.limits.now bs) old l.cut_rates l.cut_amounts l.i b (l.invariant.0 ∙ sym l.invariant.1)
          (omega (arith, cut_many))
          (omega (arith, old_many))
          (c.cut_place-b.ensures ∙ part_in_book o a.limits.now bs _ l.i (part_is bs _ l.i c.part.ensures) c.requires.limits_value (omega arith))
          l.invariant.2,
    )

pub returns : goal.returns
returns c =
    let a = c.args in
    let l = c.loop-i in
    let o = viewed a.o in
    let bs = bids_in a.bids in
    let old = bids_of a.cut_rates.now a.cut_amounts.now in
    let old_many = length_of_lem a.cut_rates.now a.cut_amounts.now (c.requires.cut_rates_len ∙ sym c.requires.cut_amounts_len) in
    l.invariant.2
    ∙ fill_all (cut_book o a.limits.now bs) old l.i (omega (arith, length-book o a.limits.now bs)) (omega (arith, old_many))
