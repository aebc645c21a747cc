-- `bids::internal::bid` meets its contract. Assumes nothing.
use mathlib.Core.Path.{sym, ap₂, ◌∙◌}
use Prim.Native.Nat.{ℕ}
use native.Mathlib.Omega.{arith}
use Rattle.rules.specs.Allotment.{Bid}
use Rattle.bids.proofs.SideBySide.{length_of_lem, bid_of_lem}
use Rattle.bids.proofs.internal.bid.Goals as goal

pub bid_at-requires : goal.bid_at-requires
bid_at-requires c =
    let s = c.args.bids in
    let many = length_of_lem s.rates.now s.amounts.now s.paired in
    record { rates_in_bounds = omega (arith, s.paired); amounts_in_bounds = omega arith }

pub returns : goal.returns
returns c =
    let s = c.args.bids in
    ap₂ {C = Bid} (λ (r a : ℕ). record { rate = r; amount = a }) c.bid_at.ensures.rate c.bid_at.ensures.amount ∙ sym (bid_of_lem s.rates.now s.amounts.now c.args.i s.paired)
