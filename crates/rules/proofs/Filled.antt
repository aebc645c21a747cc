-- Which places are filled: those of bids in, and those of an amount above zero. Assumes nothing.
use mathlib.Core.Path.{◌≡◌, ap, ◌∙◌}
use mathlib.Core.Bool.{Bool, true, false, not, ◌&&◌, and-false}
use Prim.Native.Nat.{◌<◌}
use native.Mathlib.Omega.{arith}
use lib.Dec.{eqb}
use borrow.Author.Tests.{ne_eqb}
use Rattle.laws.proofs.Tests.{and_left}
use Rattle.rules.specs.Allotment.{Bid, filled, Offer, better_rate, is_in}

pub in_filled : (o : Offer) (b : Bid) → is_in o b ≡ true → filled b ≡ true
unfolding is_in
in_filled o b h = and_left (filled b) (not (better_rate o.side o.limit b.rate)) h

pub filled_above : (b : Bid) → 0 < b.amount → filled b ≡ true
unfolding filled
filled_above b positive =
    let some_amount : eqb b.amount 0 ≡ false = ne_eqb b.amount 0 (λ h. omega arith) in
    ap (λ (t : Bool). not (eqb b.rate 0 && t)) some_amount ∙ ap not (and-false (eqb b.rate 0))
