-- `addresses::internal::branch_from` meets its contract. Assumes nothing.
use mathlib.Core.Path.{◌≡◌, sym, ap, ap₂, ◌∙◌}
use mathlib.Core.List.{List}
use Prim.Native.Nat.{ℕ, ◌+◌}
use lib.ListN.{get_or}
use native.Mathlib.Omega.{arith}
use Rattle.digits.specs.Decimal.{Digits, number_in}
use Rattle.addresses.specs.declared.Address.TheVariants.{Branch}
use Rattle.addresses.proofs.Reading.{formed, five_bytes, formed-both, formed-second, branch_formed, branch_malformed}
use Rattle.addresses.proofs.internal.branch_from.Goals as goal

-- the test of the code and the second number, for what they are known to be
test : (m : List ℕ) (from : ℕ) (d e d₂ e₂ : Digits) → d ≡ d₂ → e ≡ e₂ → formed d (get_or m (from + 5) 0) e (get_or m (from + 11) 0) ≡ formed d₂ (get_or m (from + 5) 0) e₂ (get_or m (from + 11) 0)
test m from d e d₂ e₂ p q = ap₂ (λ (x y : Digits). formed x (get_or m (from + 5) 0) y (get_or m (from + 11) 0)) p q

pub returns-in-Some-Some : goal.returns-in-Some-Some
returns-in-Some-Some c =
    let a = c.args in
    let m = a.m.now in
    let b = c.number_at-branch in
    let i = c.in-Some-Some in
    let t = test m a.from a.code b.result _ _ i.is-0 i.is-1 ∙ formed-both i.code i.branch (get_or m (a.from + 5) 0) (get_or m (a.from + 11) 0) ∙ c.if-m-from.true in
    ap₂ (λ (u v : Digits). Branch (number_in u) (number_in v) (get_or m (a.from + 12) 0) (get_or m (a.from + 13) 0)) (sym i.is-0) (sym i.is-1)
    ∙ branch_formed m a.from a.code b.result c.requires.2 (five_bytes m (a.from + 6) (a.from + 11) b.result (omega arith) b.ensures) t

pub returns-in_default : goal.returns-in_default
returns-in_default c =
    let a = c.args in
    let m = a.m.now in
    let b = c.number_at-branch in
    let i = c.in-Some-Some in
    branch_malformed m a.from a.code b.result c.requires.2 (five_bytes m (a.from + 6) (a.from + 11) b.result (omega arith) b.ensures)
    (test m a.from a.code b.result _ _ i.is-0 i.is-1 ∙ formed-both i.code i.branch (get_or m (a.from + 5) 0) (get_or m (a.from + 11) 0) ∙ c.if-m-from.false)

pub returns-in_default-2 : goal.returns-in_default-2
returns-in_default-2 c =
    let a = c.args in
    let m = a.m.now in
    let b = c.number_at-branch in
    branch_malformed m a.from a.code b.result c.requires.2 (five_bytes m (a.from + 6) (a.from + 11) b.result (omega arith) b.ensures)
    (test m a.from a.code b.result _ _ c.in_default.is-0 c.in_default.is-1 ∙ formed-second c.in_default.field-0-0 (get_or m (a.from + 5) 0) (get_or m (a.from + 11) 0))

pub returns-in_default-3 : goal.returns-in_default-3
returns-in_default-3 c =
    let a = c.args in
    let m = a.m.now in
    let b = c.number_at-branch in
    branch_malformed m a.from a.code b.result c.requires.2 (five_bytes m (a.from + 6) (a.from + 11) b.result (omega arith) b.ensures)
    (ap (λ (d : Digits). formed d (get_or m (a.from + 5) 0) b.result (get_or m (a.from + 11) 0)) c.in_default.is-0)
