-- A lower rank is not a worse rate, and keys sorted are still those of the bids in. Assumes nothing.
use mathlib.Core.Path.{◌≡◌, sym, ◌∙◌}
use mathlib.Core.Bool.{true, false}
use mathlib.Core.List.{List}
use Prim.Native.Nat.{ℕ, ◌≤◌}
use native.Mathlib.Omega.{arith}
use borrow.Author.Tests.{ltb-true, ltb-false, lt-ltb, le-ltb}
use Rattle.announcement.specs.declared.Side.{Side}
use Rattle.announcement.specs.declared.Side.TheVariants.{La, Lp}
use Rattle.sort.specs.Sorting.{Same}
use Rattle.sort.proofs.Sorting.{each_still}
use Rattle.rules.specs.Allotment.{Bid, Offer, better_rate}
use Rattle.offer.specs.Viewed.{ranks}
use Rattle.offer.proofs.Ranks.{ranks_compare}
use Rattle.marginal.specs.Ranks.{key_bid, is_key, Ranked}

pub lower_rank : (d : Side) (r s k l : ℕ) → ranks d r k ≡ true → ranks d s l ≡ true → k ≤ l → better_rate d s r ≡ false
lower_rank d r s k l h g e = sym (ranks_compare d s r l k g h) ∙ le-ltb l k e

-- c is better than r, and x is not: c is better than x
pub better_than : (d : Side) (c r x : ℕ) → better_rate d c r ≡ true → better_rate d x r ≡ false → better_rate d c x ≡ true
unfolding better_rate
better_than La c r x h k = lt-ltb c x (omega (arith, ltb-true, ltb-false))
better_than Lp c r x h k = lt-ltb x c (omega (arith, ltb-true, ltb-false))

-- the same keys in another order
pub ranked_sorted : (o : Offer) (bs : List Bid) (before after : List ℕ) → Ranked o bs before → Same before after → Ranked o bs after
ranked_sorted o bs before after r same =
    record {
      are_keys = each_still before after same (λ (k : ℕ). is_key o bs k ≡ true) r.are_keys;
      weigh = λ w. same.weigh (λ k. w (key_bid bs k)) ∙ r.weigh w;
    }
