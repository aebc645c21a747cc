-- `bids::is_uneven` meets its contract. Assumes nothing.
use borrow.Author.Tests.{le-leb, lt-leb}
use mathlib.Core.Path.{refl}
use native.Mathlib.Omega.{arith}
use Rattle.rules.specs.Receiving.{uneven_bid}
use Rattle.bids.proofs.is_uneven.Goals as goal

pub returns-then-amount-least : goal.returns-then-amount-least
unfolding uneven_bid
returns-then-amount-least c = let a = c.args in rw (lt-leb a.minimum.0 a.b.amount.0 c.if-amount-least.true) refl

pub returns : goal.returns
unfolding uneven_bid
returns c = let a = c.args in rw (c.rest.ensures, le-leb a.minimum.0 a.b.amount.0 (omega arith)) refl
