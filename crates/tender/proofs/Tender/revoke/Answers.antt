-- `tender::Tender::revoke` meets its contract. Assumes nothing.
use mathlib.Core.Path.{subst}
use mathlib.Core.Option.{Option}
use Prim.Native.Nat.{ℕ}
use Rattle.envelope.specs.Refusals.{unless_refused}
use Rattle.rules.specs.Calls as rules
use Rattle.rules.specs.Calls.{revoking_refused, revoke}
use Rattle.tender.specs.Viewed.{viewed}
use Rattle.tender.specs.Calls.{Changes}
use Rattle.tender.proofs.Tender.revoke.Goals as goal

pub returns : goal.returns
unfolding revoke revoking_refused
returns c =
    let a = c.args in
    subst (λ (l : Option ℕ). Changes a.self (l, unless_refused l (viewed a.self) (rules.in_state rules.Revoked (viewed a.self))) c.in_state_unless.result) c.ended_refusal-answer.ensures c.in_state_unless.ensures.1
