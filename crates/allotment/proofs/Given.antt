-- What the code's allotment gives are the awards and the marginal rate that the rules give of these terms. Assumes nothing.
use mathlib.Core.Path.{◌≡◌, sym, ap₂}
use mathlib.Core.Bool.{Bool, true, false, cond}
use mathlib.Core.List.{List}
use mathlib.Core.Option.{Option, none}
use Prim.Native.Nat.{ℕ}
use lib.Dec.{ltb}
use Rattle.rules.specs.Allotment.{Bid, total}
use Rattle.rules.specs.Opening.{Terms, offer_of}
use Rattle.rules.specs.Calls.{bids_taken, awards_given, marginal_given}
use Rattle.rules.proofs.Links.{given_of_offer, marginal_of_offer}
use Rattle.offer.specs.Viewed.{most_bids}
use Rattle.allotment.specs.Allotted.{allotted_to}

pub allotted-given : (t : Terms) (bs : List Bid) (before : List ℕ)
    → allotted_to (offer_of t) t.admission.limits bs before ≡ cond (ltb most_bids (total bs)) (true, none, before) (false, marginal_given t bs, awards_given t bs)
unfolding allotted_to bids_taken
allotted-given t bs before =
    ap₂ (λ (r : Option ℕ) (xs : List ℕ). cond {A = Bool × Option ℕ × List ℕ} (ltb most_bids (total bs)) (true, none, before) (false, r, xs)) (sym (marginal_of_offer t bs)) (sym (given_of_offer t bs))
