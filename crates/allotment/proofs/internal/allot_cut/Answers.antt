-- `allotment::internal::allot_cut` meets its contract. Assumes nothing.
use mathlib.Core.Path.{◌≡◌, sym, ap, ◌∙◌}
use mathlib.Core.List.{List}
use Prim.Native.Nat.{ℕ, ◌≤◌}
use native.Mathlib.Omega.{arith}
use lib.ListN.{length}
use Rattle.rules.specs.Allotment.{Bid, Offer, total, awards, marginal_rate}
use Rattle.rules.specs.Cuts.{cut_book}
use Rattle.rules.proofs.Cuts.{length-book}
use Rattle.bids.specs.Columns.{bids_in}
use Rattle.credit_limits.proofs.Places.{no_more_in_all}
use Rattle.offer.specs.Viewed.{viewed, most_bids}
use Rattle.allotment.proofs.internal.allot_cut.Goals as goal

-- the cut bids are as many as the bids, and no more in all
cut_within : (o : Offer) (limits : List ℕ) (bs cut : List Bid) → cut ≡ cut_book o limits bs → total bs ≤ most_bids → total cut ≤ most_bids
cut_within o limits bs cut e h = omega (arith, ap total e, no_more_in_all o limits bs)

cut_as_many : (o : Offer) (limits : List ℕ) (bs cut : List Bid) → cut ≡ cut_book o limits bs → length cut ≡ length bs
cut_as_many o limits bs cut e = ap (λ (l : List Bid). length l) e ∙ length-book o limits bs

pub marginal_rate-marginal-requires : goal.marginal_rate-marginal-requires
marginal_rate-marginal-requires c =
    let a = c.args in
    let o = viewed a.o in
    let bs = bids_in a.bids in
    record {
      bids_len_bound = omega (arith, cut_as_many o a.limits.now bs _ c.cut_book.ensures, c.requires.bids_len_bound);
      bids_bound = cut_within o a.limits.now bs _ c.cut_book.ensures c.requires.bids_bound;
    }

pub award-requires : goal.award-requires
award-requires c =
    let a = c.args in
    let o = viewed a.o in
    let bs = bids_in a.bids in
    record {
      awards_len = c.requires.awards_len ∙ sym (cut_as_many o a.limits.now bs _ c.cut_book.ensures);
      bids_bound = cut_within o a.limits.now bs _ c.cut_book.ensures c.requires.bids_bound;
      marginal_value = c.marginal_rate-marginal.ensures;
    }

pub returns : goal.returns
returns c =
    let o = viewed c.args.o in
    let cut = c.cut_book in
    record {
      marginal_is = c.marginal_rate-marginal.ensures ∙ ap (marginal_rate o) cut.ensures;
      awards_are = c.award.ensures ∙ ap (awards o) cut.ensures;
    }
