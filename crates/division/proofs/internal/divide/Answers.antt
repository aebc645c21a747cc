-- `division::internal::divide` meets its contract. The loop's invariant: the division is the one of as many rounds as were run. Assumes nothing.
use Rattle.std.proofs.Common.{◌≡◌, ℕ, ◌+◌, sym, ap, ◌∙◌, arith}
use Rattle.rules.specs.Allotment.{binary_length, division_at, division}
use Rattle.rules.proofs.Division.{first_round}
use Rattle.division.proofs.Rounds.{counted}
use Rattle.division.proofs.internal.divide.Goals as goal

pub loop-init : goal.loop-init
loop-init c = sym (first_round _ _ _)

pub round-d-requires : goal.round-d-requires
round-d-requires c =
    let p = c.requires in
    let s = counted _ _ _ _ _ c.loop.invariant in
    record { d_value = s.0; count_bound = omega (arith, s.1, c.binary_length-end.ensures); m_lt_e = p.m_lt_e; e_bound = p.e_bound }

pub loop-preserved : goal.loop-preserved
loop-preserved c =
    let a = c.args in
    c.round-d.ensures ∙ ap (λ (n : ℕ). division_at a.a.0 a.m.0 a.e.0 (n + 1)) (counted _ _ _ _ _ c.loop.invariant).1

pub returns : goal.returns
unfolding division
returns c =
    let a = c.args in
    let all : c.loop.counter ≡ binary_length a.a.0 = omega (arith, c.binary_length-end.ensures) in
    c.loop.invariant ∙ ap (division_at a.a.0 a.m.0 a.e.0) all
