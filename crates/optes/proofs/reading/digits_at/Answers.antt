-- `optes::reading::digits_at` meets its contract. Assumes nothing.
use mathlib.Core.Path.{◌≡◌, sym, ap, ◌∙◌}
use mathlib.Core.Bool.{true}
use Prim.Native.Nat.{ℕ, ◌≤◌}
use native.Mathlib.Omega.{arith}
use Rattle.digits.specs.Decimal.{Digits}
use Rattle.digits.specs.Decimal.{digits_of}
use Rattle.layout.specs.Fields.{readable, content}
use Rattle.envelope.specs.Application.{layout6_g1}
use Rattle.numbers.specs.ByNumber.{field_digits}
use Rattle.numbers.proofs.ByNumber.{sender_code, recipient_code, digits_there, digits_other, digits_none}
use Rattle.optes.proofs.reading.digits_at.Goals as goal

pub sender_digits-requires : goal.sender_digits-requires
sender_digits-requires c =
    let readable_there : readable layout6_g1 c.args.m.now ≡ true = sym c.is_6g1.ensures ∙ c.if-is_6g1.true in
    readable_there

pub recipient_digits-requires : goal.recipient_digits-requires
recipient_digits-requires c =
    let readable_there : readable layout6_g1 c.args.m.now ≡ true = sym c.is_6g1.ensures ∙ c.if-is_6g1.true in
    readable_there

pub cro_of-requires : goal.cro_of-requires
cro_of-requires c =
    let readable_there : readable layout6_g1 c.args.m.now ≡ true = sym c.is_6g1.ensures ∙ c.if-is_6g1.true in
    readable_there

pub date_of-requires : goal.date_of-requires
date_of-requires c =
    let readable_there : readable layout6_g1 c.args.m.now ≡ true = sym c.is_6g1.ensures ∙ c.if-is_6g1.true in
    readable_there

pub time_of-requires : goal.time_of-requires
time_of-requires c =
    let readable_there : readable layout6_g1 c.args.m.now ≡ true = sym c.is_6g1.ensures ∙ c.if-is_6g1.true in
    readable_there

pub check_of-requires : goal.check_of-requires
check_of-requires c =
    let readable_there : readable layout6_g1 c.args.m.now ≡ true = sym c.is_6g1.ensures ∙ c.if-is_6g1.true in
    readable_there

pub returns-in-1 : goal.returns-in-1
returns-in-1 c =
    let readable_there : readable layout6_g1 c.args.m.now ≡ true = sym c.is_6g1.ensures ∙ c.if-is_6g1.true in
    let a = c.args in
    c.sender_digits.ensures ∙ sym (sender_code a.m.now readable_there a.field c.in-1.is)

pub returns-in-2 : goal.returns-in-2
returns-in-2 c =
    let readable_there : readable layout6_g1 c.args.m.now ≡ true = sym c.is_6g1.ensures ∙ c.if-is_6g1.true in
    let a = c.args in
    c.recipient_digits.ensures ∙ sym (recipient_code a.m.now readable_there a.field c.in-2.is)

pub returns-in-3 : goal.returns-in-3
returns-in-3 c =
    let readable_there : readable layout6_g1 c.args.m.now ≡ true = sym c.is_6g1.ensures ∙ c.if-is_6g1.true in
    let held : (k : ℕ) (d : Digits) → 3 ≤ k → k ≤ 6 → c.args.field ≡ k → d ≡ digits_of (content k c.args.m.now) → d ≡ field_digits c.args.field c.args.m.now = λ k d l u e p. let m = c.args.m.now in
    p ∙ sym (ap (λ (j : ℕ). field_digits j m) e ∙ digits_there k m readable_there l u) in
    held 3 _ (omega arith) (omega arith) c.in-3.is c.cro_of.ensures

pub returns-in-4 : goal.returns-in-4
returns-in-4 c =
    let readable_there : readable layout6_g1 c.args.m.now ≡ true = sym c.is_6g1.ensures ∙ c.if-is_6g1.true in
    let held : (k : ℕ) (d : Digits) → 3 ≤ k → k ≤ 6 → c.args.field ≡ k → d ≡ digits_of (content k c.args.m.now) → d ≡ field_digits c.args.field c.args.m.now = λ k d l u e p. let m = c.args.m.now in
    p ∙ sym (ap (λ (j : ℕ). field_digits j m) e ∙ digits_there k m readable_there l u) in
    held 4 _ (omega arith) (omega arith) c.in-4.is c.date_of.ensures

pub returns-in-5 : goal.returns-in-5
returns-in-5 c =
    let readable_there : readable layout6_g1 c.args.m.now ≡ true = sym c.is_6g1.ensures ∙ c.if-is_6g1.true in
    let held : (k : ℕ) (d : Digits) → 3 ≤ k → k ≤ 6 → c.args.field ≡ k → d ≡ digits_of (content k c.args.m.now) → d ≡ field_digits c.args.field c.args.m.now = λ k d l u e p. let m = c.args.m.now in
    p ∙ sym (ap (λ (j : ℕ). field_digits j m) e ∙ digits_there k m readable_there l u) in
    held 5 _ (omega arith) (omega arith) c.in-5.is c.time_of.ensures

pub returns-in-6 : goal.returns-in-6
returns-in-6 c =
    let readable_there : readable layout6_g1 c.args.m.now ≡ true = sym c.is_6g1.ensures ∙ c.if-is_6g1.true in
    let held : (k : ℕ) (d : Digits) → 3 ≤ k → k ≤ 6 → c.args.field ≡ k → d ≡ digits_of (content k c.args.m.now) → d ≡ field_digits c.args.field c.args.m.now = λ k d l u e p. let m = c.args.m.now in
    p ∙ sym (ap (λ (j : ℕ). field_digits j m) e ∙ digits_there k m readable_there l u) in
    held 6 _ (omega arith) (omega arith) c.in-6.is c.check_of.ensures

pub returns-in_default : goal.returns-in_default
returns-in_default c =
    let a = c.args in
    let r = c.in_default.in_default-own.rest in
    digits_other a.field a.m.now r.0.0.0.0.0.1 r.0.0.0.0.1 r.0.0.0.1 r.0.0.1 r.0.1 r.1

pub returns : goal.returns
returns c = digits_none c.args.field c.args.m.now (sym c.is_6g1.ensures ∙ c.if-is_6g1.false)
