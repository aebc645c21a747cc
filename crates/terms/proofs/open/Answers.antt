-- `terms::open` meets its contract: the conditions in their order, then the terms. Assumes nothing.
use mathlib.Core.Path.{◌≡◌, sym, ap, ◌∙◌}
use mathlib.Core.Bool.{true, false}
use Rattle.std.proofs.Common.{rules, Some, is_some, Err}
use Rattle.rules.specs.Opening.{admitting, well_formed}
use Rattle.terms.proofs.Forming.{no_announcement, announcement-readable, announcement_is, refused_2, refused_3, refused_4, refused_5, refused_6, refused-admission}
use Rattle.terms.proofs.open.Goals as goal

pub returns-in_default : goal.returns-in_default
returns-in_default c =
    let a = c.args in
    record { number = no_announcement a.m.now (admitting a.codes.now a.limits.now) (sym c.in_default.is ∙ c.read.ensures); terms = tt }

pub other_origin-requires : goal.other_origin-requires
other_origin-requires c = announcement-readable c.args.m.now c.in-Some.a (sym c.in-Some.is ∙ c.read.ensures)

pub returns-then-other_origin : goal.returns-then-other_origin
returns-then-other_origin c =
    let a = c.args in
    let read = sym c.in-Some.is ∙ c.read.ensures in
    record { number = refused_2 a.m.now c.in-Some.a read (admitting a.codes.now a.limits.now) (sym c.other_origin.ensures ∙ c.if-other_origin.true); terms = tt }

pub returns-in_default-well_formed : goal.returns-in_default-well_formed
returns-in_default-well_formed c =
    let a = c.args in
    let read = sym c.in-Some.is ∙ c.read.ensures in
    let origin = sym c.other_origin.ensures ∙ c.if-other_origin.false in
    let malformed : well_formed c.in-Some.a ≡ false = sym c.well_formed-2.ensures.whether ∙ ap is_some c.in_default-well_formed.is in
    record { number = refused_3 a.m.now c.in-Some.a read (admitting a.codes.now a.limits.now) origin malformed; terms = tt }

pub returns-in_default-kind : goal.returns-in_default-kind
returns-in_default-kind c =
    let a = c.args in
    let read = sym c.in-Some.is ∙ c.read.ensures in
    let origin = sym c.other_origin.ensures ∙ c.if-other_origin.false in
    let formed : well_formed c.in-Some.a ≡ true = sym c.well_formed-2.ensures.whether ∙ ap is_some c.in-Some-well_formed.is in
    record { number = refused_4 a.m.now c.in-Some.a read (admitting a.codes.now a.limits.now) origin formed c.in_default-kind.is; terms = tt }

pub returns-then-numbers_impossible : goal.returns-then-numbers_impossible
returns-then-numbers_impossible c =
    let a = c.args in
    let read = sym c.in-Some.is ∙ c.read.ensures in
    let origin = sym c.other_origin.ensures ∙ c.if-other_origin.false in
    let formed : well_formed c.in-Some.a ≡ true = sym c.well_formed-2.ensures.whether ∙ ap is_some c.in-Some-well_formed.is in
    let has : c.in-Some.a.characteristics ≡ Some c.in-Some-well_formed.c = c.in-Some-well_formed.ensures.which in
    record {
      number = refused_5 a.m.now c.in-Some.a read (admitting a.codes.now a.limits.now) origin formed c.in-Some-kind.kind c.in-Some-well_formed.c c.in-Some-kind.is has
          (sym c.numbers_impossible.ensures ∙ c.if-numbers_impossible.true);
      terms = tt;
    }

pub returns-then-not-in_order : goal.returns-then-not-in_order
returns-then-not-in_order c =
    let a = c.args in
    let read = sym c.in-Some.is ∙ c.read.ensures in
    let origin = sym c.other_origin.ensures ∙ c.if-other_origin.false in
    let formed : well_formed c.in-Some.a ≡ true = sym c.well_formed-2.ensures.whether ∙ ap is_some c.in-Some-well_formed.is in
    let has : c.in-Some.a.characteristics ≡ Some c.in-Some-well_formed.c = c.in-Some-well_formed.ensures.which in
    let possible = sym c.numbers_impossible.ensures ∙ c.if-numbers_impossible.false in
    record {
      number = refused_6 a.m.now c.in-Some.a read (admitting a.codes.now a.limits.now) origin formed c.in-Some-kind.kind c.in-Some-well_formed.c c.in-Some-kind.is has possible
          (sym c.in_order.ensures ∙ c.if-not-in_order.true);
      terms = tt;
    }

pub returns-in_err-admission_refusal : goal.returns-in_err-admission_refusal
returns-in_err-admission_refusal c =
    let a = c.args in
    let read = sym c.in-Some.is ∙ c.read.ensures in
    let origin = sym c.other_origin.ensures ∙ c.if-other_origin.false in
    let formed : well_formed c.in-Some.a ≡ true = sym c.well_formed-2.ensures.whether ∙ ap is_some c.in-Some-well_formed.is in
    let has : c.in-Some.a.characteristics ≡ Some c.in-Some-well_formed.c = c.in-Some-well_formed.ensures.which in
    let possible = sym c.numbers_impossible.ensures ∙ c.if-numbers_impossible.false in
    let ordered = sym c.in_order.ensures ∙ c.if-not-in_order.false in
    let admission = refused-admission a.m.now c.in-Some.a read (admitting a.codes.now a.limits.now) origin formed c.in-Some-kind.kind c.in-Some-well_formed.c c.in-Some-kind.is has possible ordered in
    let f = c.in_err-admission_refusal.field-0.0 in
    let told : c.from_residual.result ≡ Err f = search rules in
    rw told (record { number = c.in_err-admission_refusal.ensures ∙ admission; terms = tt })

pub terms_of-requires-clause-m_value : goal.terms_of-requires-clause-m_value
terms_of-requires-clause-m_value c =
    let read = sym c.in-Some.is ∙ c.read.ensures in
    (announcement-readable c.args.m.now c.in-Some.a read, announcement_is c.args.m.now c.in-Some.a read)

pub returns : goal.returns
returns c =
    let a = c.args in
    let read = sym c.in-Some.is ∙ c.read.ensures in
    let origin = sym c.other_origin.ensures ∙ c.if-other_origin.false in
    let formed : well_formed c.in-Some.a ≡ true = sym c.well_formed-2.ensures.whether ∙ ap is_some c.in-Some-well_formed.is in
    let has : c.in-Some.a.characteristics ≡ Some c.in-Some-well_formed.c = c.in-Some-well_formed.ensures.which in
    let possible = sym c.numbers_impossible.ensures ∙ c.if-numbers_impossible.false in
    let ordered = sym c.in_order.ensures ∙ c.if-not-in_order.false in
    let admission = refused-admission a.m.now c.in-Some.a read (admitting a.codes.now a.limits.now) origin formed c.in-Some-kind.kind c.in-Some-well_formed.c c.in-Some-kind.is has possible ordered in
    record { number = c.in_ok-admission_refusal.ensures ∙ admission; terms = c.terms_of.ensures (admitting a.codes.now a.limits.now) }
