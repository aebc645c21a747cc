-- What is proved of credit limits in every tender that opening and events leave (document 02, S-2). Assumes nothing.
use Rattle.std.specs.Prelude.{◌≡◌, true, List, ℕ, ◌≤◌, get_or}
use Rattle.std.proofs.Math.Option.{none}
use Rattle.rules.specs.Allotment.{sum}
use Rattle.rules.specs.Cuts.{is_capped}
use Rattle.rules.specs.Opening.{Admission, opening_refused, terms_of, offer_of}
use Rattle.rules.specs.Calls.{open_tender, allot}
use Rattle.rules.specs.Events.{Event, after_events}
use Rattle.credit_limits.specs.Theorems.{ten_at}

-- 'the Ministry may cap what it lends to each counterparty': the awards of the k-th code, from 0, come to at most its limit where that is a cap, in
-- every allotment of every tender that opening and events of any kind leave
abbrev pub LentWithinLimits : Type 0
LentWithinLimits =
    (m : List ℕ) (a : Admission) (es : List Event) (k : ℕ)
    → opening_refused m a ≡ none
    → is_capped (offer_of (terms_of m a)) (get_or a.limits k 0) ≡ true
    → sum (ten_at k (allot (after_events (open_tender m a).1 es)).2.awards) ≤ get_or a.limits k 0
