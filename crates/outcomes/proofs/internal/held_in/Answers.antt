-- `outcomes::internal::held_in` meets its contract. Assumes nothing.
use mathlib.Core.Path.{refl, sym, ap, ◌∙◌}
use mathlib.Core.Bool.{Bool, cond, false≢true}
use Rattle.bids.specs.Columns.{bids_from}
use Rattle.book.specs.Viewed.{viewed, replaced}
use Rattle.outcomes.proofs.internal.held_in.Goals as goal

pub returns-then-is_held : goal.returns-then-is_held
returns-then-is_held c =
    let h = c in
    let a = h.args in
    let told = sym h.is_held.ensures ∙ c.if-is_held.true in (
      c.hold.ensures.0 ∙ sym (ap (λ (b : Bool). cond b (replaced (viewed a.b) a.o.accepted.at a.o.accepted.time (bids_from a.o.accepted.rates a.o.accepted.amounts 0 10)) (viewed a.b)) told),
      c.hold.ensures.1,
      λ q. absurd (false≢true (sym q ∙ told)),
    )

pub returns : goal.returns
returns c =
    let h = c in
    let a = h.args in
    let told = sym h.is_held.ensures ∙ c.if-is_held.false in
    (sym (ap (λ (b : Bool). cond b (replaced (viewed a.b) a.o.accepted.at a.o.accepted.time (bids_from a.o.accepted.rates a.o.accepted.amounts 0 10)) (viewed a.b)) told), refl, λ q. refl)
