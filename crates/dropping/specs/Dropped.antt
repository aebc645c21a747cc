-- What dropping awards in place gives, as document 02's. Assumes nothing.
use Rattle.std.specs.Prelude.{◌≡◌, List, ℕ}
use Rattle.places.specs.declared.Amount.{Amount}
use Rattle.smallest_award.specs.SmallestAward.{given_awards, dropped_cents}

-- the cents dropped, and the awards `after` it
abbrev pub Drops : ℕ → List ℕ → Amount → List ℕ → Type 0
Drops m before r after = ◌≡◌ {A = ℕ × List ℕ} (r.0, after) (dropped_cents m before, given_awards m before)
