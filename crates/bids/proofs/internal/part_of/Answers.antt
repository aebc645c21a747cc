-- `bids::internal::part_of` meets its contract. Assumes nothing.
use mathlib.Core.Path.{ap, ◌∙◌}
use Prim.Native.Nat.{◌-◌}
use lib.ListN.{take, drop}
use Rattle.bids.proofs.SideBySide.{take_of, drop_of}
use Rattle.bids.proofs.internal.part_of.Goals as goal

pub returns : goal.returns
returns c =
    let a = c.args in
    take_of (a.to - a.from) (drop a.from a.rates.now) (drop a.from a.amounts.now) ∙ ap (take (a.to - a.from)) (drop_of a.from a.rates.now a.amounts.now c.requires.paired)
