-- `session_log::log_all` meets its contract: each turn takes what the last one gave, and all together write the log. Assumes nothing.
use mathlib.Core.Path.{refl, ap}
use mathlib.Core.List.{[]}
use Prim.Native.Nat.{zero-le}
use native.Mathlib.Omega.{arith}
use borrow.Author.Tests.{not-false}
use Rattle.session_log.proofs.Turns.{still_within, still_journal}
use Rattle.session_log.proofs.Logs.{at_first, after_turn, at_last, at_limit}
use Rattle.session_log.proofs.log_all.Goals as goal

pub loop-init : goal.loop-init
loop-init g c = (
  record { begun = zero-le; ordered = zero-le; inside = zero-le },
  record { given = (c.standing_at_start.ensures [] _).1; codes-length = refl; words-length = c.open_in.auto.words },
  c.requires,
  at_first _ _ _ _ _ _ (c.standing_at_start.ensures _ _).0 (refl, refl) (refl, refl) refl (record { begun = zero-le; ordered = zero-le; inside = zero-le }),
)

pub loop-preserved : goal.loop-preserved
loop-preserved g c =
    let v = c.loop.invariant in
    let turn = c.next_turn-now in
    let k = turn.ensures.turn in
    let short = turn.auto.lines in (
      still_within k,
      still_journal k v.1,
      omega (arith, v.2, short),
      after_turn v.3 (not-false c.loop.now.more c.if-not-now.false) k
          (λ e. let d = turn.ensures.draws e in (d.0, ap g.W.Write.contents d.1))
          (λ e. let w = turn.ensures.writes e in (w.0, ap g.R.Read.remaining w.1))
          (λ k. let fits = c.type_inv.input k in omega (arith, fits))
          turn.auto.input
          short,
    )

pub returns-after-loop-clause-logs : goal.returns-after-loop-clause-logs
returns-after-loop-clause-logs g c = at_last c.loop.invariant.3

pub returns-then-not-now-clause-logs : goal.returns-then-not-now-clause-logs
returns-then-not-now-clause-logs g c = at_last c.loop.invariant.3

pub returns-after-loop-clause-turns : goal.returns-after-loop-clause-turns
returns-after-loop-clause-turns g c = at_limit c.loop.invariant.3 c.loop-test.false
