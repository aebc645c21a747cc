-- `allotment::internal::allot` meets its contract. Assumes nothing.
use mathlib.Core.Path.{◌≡◌, sym, ap, ◌∙◌}
use mathlib.Core.Bool.{Bool}
use mathlib.Core.List.{List}
use Prim.Native.Nat.{ℕ}
use borrow.Author.Tests.{ltb-false}
use lib.Dec.{ltb}
use lib.ListN.{length}
use Rattle.rules.specs.Allotment.{total, sum}
use Rattle.bids.specs.Columns.{bids_of, bids_in}
use Rattle.bids.proofs.SideBySide.{length_of_lem, total_of}
use Rattle.offer.specs.Viewed.{viewed, most_bids}
use Rattle.allotment.proofs.Allotted.{refused, cut, uncut}
use Rattle.allotment.proofs.internal.allot.Goals as goal

-- whether the amounts exceed is whether the bids do
tested : (rates amounts : List ℕ) (told : Bool) → length rates ≡ length amounts → told ≡ ltb most_bids (sum amounts) → ltb most_bids (total (bids_of rates amounts)) ≡ told
tested rates amounts told paired e = ap (ltb most_bids) (total_of rates amounts paired) ∙ sym e

pub returns-then-exceeds : goal.returns-then-exceeds
returns-then-exceeds c =
    let a = c.args in
    let b = a.bids in
    refused (viewed a.o) a.limits.now (bids_in b) a.awards.now (tested b.rates.now b.amounts.now _ b.paired c.exceeds.ensures ∙ c.if-exceeds.true)

pub allot_limited-requires : goal.allot_limited-requires
allot_limited-requires c =
    let p = c.requires in
    let b = c.args.bids in
    let many = length_of_lem b.rates.now b.amounts.now b.paired in
    let within = tested b.rates.now b.amounts.now _ b.paired c.exceeds.ensures ∙ c.if-exceeds.false in
    record {
      limits_value = p.limits_value ∙ sym many;
      awards_len = p.awards_len ∙ sym many;
      bids_len_bound = rw many p.amounts_len_bound;
      bids_bound = ltb-false _ _ within;
    }

pub returns-then-any_capped : goal.returns-then-any_capped
returns-then-any_capped c =
    let a = c.args in
    let b = a.bids in
    let within = tested b.rates.now b.amounts.now _ b.paired c.exceeds.ensures ∙ c.if-exceeds.false in
    cut (viewed a.o) a.limits.now (bids_in b) a.awards.now _ _ within c.allot_limited.ensures

pub allot_uncut-requires : goal.allot_uncut-requires
allot_uncut-requires c =
    let p = c.requires in
    let b = c.args.bids in
    let many = length_of_lem b.rates.now b.amounts.now b.paired in
    let within = tested b.rates.now b.amounts.now _ b.paired c.exceeds.ensures ∙ c.if-exceeds.false in
    record { awards_len = p.awards_len ∙ sym many; bids_len_bound = rw many p.amounts_len_bound; bids_bound = ltb-false _ _ within }

pub returns : goal.returns
returns c =
    let a = c.args in
    let b = a.bids in
    let within = tested b.rates.now b.amounts.now _ b.paired c.exceeds.ensures ∙ c.if-exceeds.false in
    uncut (viewed a.o) a.limits.now (bids_in b) a.awards.now _ _ within (sym c.any_capped.ensures ∙ c.if-any_capped.false) c.allot_uncut.ensures
