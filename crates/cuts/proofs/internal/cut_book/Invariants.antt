-- `cuts::internal::cut_book` meets its contract. The loop's invariant: the bids passed are stored cut, in columns that keep their lengths. Assumes nothing.
use mathlib.Core.Path.{◌≡◌}
use mathlib.Core.List.{◌++◌}
use lib.ListN.{length, take, drop}
use Rattle.rules.specs.Cuts.{cut_book}
use Rattle.bids.specs.Columns.{bids_of, bids_in}
use Rattle.offer.specs.Viewed.{viewed}
use Rattle.cuts.proofs.internal.cut_book.Given as goal

abbrev pub invariant-loop-i : goal.invariant-loop-i
invariant-loop-i l =
    (length l.cut_rates ≡ length (bids_in l.bids))
    × (length l.cut_amounts ≡ length (bids_in l.bids))
    × (bids_of l.cut_rates l.cut_amounts ≡ take l.i (cut_book (viewed l.o) l.limits (bids_in l.bids)) ++ drop l.i (bids_of l.initial.cut_rates l.initial.cut_amounts))
