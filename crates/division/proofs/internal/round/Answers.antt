-- `division::internal::round` meets its contract. Assumes nothing.
use Rattle.std.proofs.Common.{ℕ, ◌+◌, ◌-◌, ◌*◌, ◌/◌, ◌%◌, ◌^◌, ap, ◌∙◌, ap₂, arith}
use Rattle.rules.specs.Allotment.{first_digits, Division}
use Rattle.division.specs.Rounds.{viewed}
use Rattle.division.proofs.Rounds.{length_le, Begun, digit_times, rest_below, next, quotient_fits}
use Rattle.division.proofs.internal.round.Goals as goal
use Rattle.division.proofs.internal.round.Goals.{After-binary_length}

-- what the round begins with
begun : (c : After-binary_length) → let s = c.args in
    Begun s.a.0 s.m.0 s.e.0 (s.a.0 / 2 ^ (c.binary_length.result - (s.d.count + 1)) % 2) (viewed s.d)
unfolding first_digits
begun c =
    let s = c.args in
    let p = c.requires in
    record {
      rounds = p.d_value;
      digit = ap (λ (x : ℕ). s.a.0 / 2 ^ (x - (s.d.count + 1)) % 2) c.binary_length.ensures;
      more = p.count_bound;
      small = p.m_lt_e;
    }

pub overflow_shr-digit : goal.overflow_shr-digit
overflow_shr-digit c = omega (arith, c.binary_length.ensures, length_le 64 c.args.a.0 (omega arith))

pub overflow_mul-rest : goal.overflow_mul-rest
overflow_mul-rest c = omega (arith, rest_below _ _ _ _ _ (begun (goal.at.overflow_mul-rest c).After-binary_length))

pub overflow_mul-rest-2 : goal.overflow_mul-rest-2
overflow_mul-rest-2 c = omega (arith, digit_times _ _ _ _ _ (begun (goal.at.overflow_mul-rest-2 c).After-binary_length))

pub overflow_add-rest : goal.overflow_add-rest
overflow_add-rest c = omega (arith, rest_below _ _ _ _ _ (begun (goal.at.overflow_add-rest c).After-binary_length))

pub overflow_mul-result : goal.overflow_mul-result
overflow_mul-result c = omega (arith, quotient_fits _ _ _ _ _ (begun (goal.at.overflow_mul-result c).After-binary_length))

pub times-requires : goal.times-requires
times-requires c = record { t_bound = rest_below _ _ _ _ _ (begun (goal.at.times-requires c).After-binary_length); e_bound = c.requires.e_bound }

pub overflow_add-result : goal.overflow_add-result
overflow_add-result c = omega (arith, c.times.ensures, quotient_fits _ _ _ _ _ (begun (goal.at.overflow_add-result c).After-binary_length))

pub left-requires : goal.left-requires
left-requires c = record { t_bound = rest_below _ _ _ _ _ (begun (goal.at.left-requires c).After-binary_length); e_bound = c.requires.e_bound }

pub returns : goal.returns
returns c =
    let d = c.args.d in
    ap₂ {C = Division} (λ (x y : ℕ). record { quotient = 2 * d.quotient.0 + x; remainder = y; count = d.count + 1 }) c.times.ensures c.left.ensures
    ∙ next _ _ _ _ _ (begun (goal.at.returns c).After-binary_length)
