-- `awards::internal::awards_at` meets its contract. Assumes nothing.
use mathlib.Core.Path.{◌≡◌, sym, ◌∙◌}
use Rattle.bids.specs.Columns.{bids_in}
use Rattle.offer.specs.Viewed.{viewed}
use Rattle.awards.specs.LastRate.{served_in, cents_in}
use Rattle.awards.proofs.Award.{served_are, cents_are}
use Rattle.awards.proofs.Loops.{no_cents}
use Rattle.awards.proofs.internal.awards_at.Goals as goal
use Rattle.awards.proofs.internal.awards_at.Goals.{After-cents_left-cents}

-- what all are served, and the cents left, by the totals of the bids
served : (c : After-cents_left-cents) → let a = c.args in c.serve_all-shared.new.awards ≡ served_in (viewed a.o) (bids_in a.bids) a.last.0
served c =
    let a = c.args in
    let t = c.totals-t in
    served_are (viewed a.o) (bids_in a.bids) a.last.0 t.result.better.0 t.result.equal.0 _ t.ensures.better_is t.ensures.equal_is c.serve_all-shared.ensures.awards_are

left : (c : After-cents_left-cents) → let a = c.args in c.cents_left-cents.result ≡ cents_in (viewed a.o) (bids_in a.bids) a.last.0
left c =
    let a = c.args in
    let t = c.totals-t in
    let all = c.serve_all-shared in
    cents_are (viewed a.o) (bids_in a.bids) a.last.0 t.result.better.0 t.result.equal.0 all.result c.cents_left-cents.result
    t.ensures.better_is
    t.ensures.equal_is
    all.ensures.shared_is
    c.cents_left-cents.ensures

pub returns-then-cents-eq0 : goal.returns-then-cents-eq0
returns-then-cents-eq0 c =
    let a = c.args in
    let before = (goal.at.returns-then-cents-eq0 c).After-cents_left-cents in
    served before ∙ no_cents (viewed a.o) (bids_in a.bids) a.last.0 c.requires.last_rate (sym (left before) ∙ c.if-cents-eq0.true)

pub add_cents-requires : goal.add_cents-requires
add_cents-requires c =
    let before = (goal.at.add_cents-requires c).After-cents_left-cents in
    let p = c.requires in
    record { bids_bound = p.bids_bound; last_rate = p.last_rate; cents_value = left before; awards_value = served before }
