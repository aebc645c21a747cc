-- `checks::internal::field_errors` meets its contract. Assumes nothing.
use mathlib.Core.Path.{◌≡◌, sym, ap, ◌∙◌}
use mathlib.Core.Bool.{not, not-not}
use mathlib.Core.List.{List, [], ◌++◌}
use Prim.Native.Nat.{ℕ}
use native.Mathlib.Omega.{arith}
use lib.Dec.{eqb}
use lib.ListN.{take}
use Rattle.texts.specs.Texts.{ascii, same_text}
use Rattle.layout.specs.Fields.{one_of}
use Rattle.digits.specs.Decimal.{is_number}
use Rattle.addresses.specs.Addresses.{code_in}
use Rattle.envelope.specs.declared.application.Field.TheVariants.{MessageType, Recipient, Identifier}
use Rattle.envelope.specs.Application.{bytes_of}
use Rattle.rules.specs.Opening.{any, is_time}
use Rattle.rules.specs.Receiving.{Error, when, sender_errors}
use Rattle.errors.specs.Listed.{listed, named, idc_table, idc_in}
use Rattle.checks.specs.Columns.{head_errors}
use Rattle.checks.proofs.Groups.{added, tested}
use Rattle.checks.proofs.internal.field_errors.Goals as goal

pub with-seventh-requires : goal.with-seventh-requires
with-seventh-requires c =
    let n1 = c.with-sixth.ensures.1 in
    let n2 = c.date_errors-fifth.ensures.1 in
    let n3 = c.with-fourth.ensures.1 in
    let n4 = c.with-third.ensures.1 in
    let n5 = c.sender_errors-second.ensures.1 in
    let n6 = c.with-first.ensures.1 in
    let n7 = c.none.ensures.1 in
    omega arith

pub other_identifier-requires : goal.other_identifier-requires
other_identifier-requires c = c.requires

pub with-requires : goal.with-requires
with-requires c =
    let n1 = c.with-seventh.ensures.1 in
    let n2 = c.with-sixth.ensures.1 in
    let n3 = c.date_errors-fifth.ensures.1 in
    let n4 = c.with-fourth.ensures.1 in
    let n5 = c.with-third.ensures.1 in
    let n6 = c.sender_errors-second.ensures.1 in
    let n7 = c.with-first.ensures.1 in
    let n8 = c.none.ensures.1 in
    omega arith

pub returns : goal.returns
unfolding head_errors named idc_table idc_in one_of
returns c =
    let a = c.args in
    let m = a.m.now in
    let l1 = listed c.with-first.result in
    let l2 = listed c.sender_errors-second.result in
    let l3 = listed c.with-third.result in
    let l4 = listed c.with-fourth.result in
    let l5 = listed c.date_errors-fifth.result in
    let l6 = listed c.with-sixth.result in
    let l7 = listed c.with-seventh.result in
    let l8 = listed c.with.result in
    let h1 : l1 ≡ when (not (same_text (bytes_of MessageType m) (ascii "6G1"))) (ascii "001", 900)
    = tested [] l1 _ _ _ c.other_type.ensures (c.with-first.ensures.0 ∙ ap (λ (l : List Error). l ++ when c.other_type.result (ascii "001", 900)) c.none.ensures.0) in
    let h3 : l3 ≡ l2 ++ when (not (same_text (take 5 (bytes_of Recipient m)) (ascii "01000"))) (ascii "050", 599) = tested l2 l3 _ _ _ c.other_recipient.ensures c.with-third.ensures.0 in
    let h4 : l4 ≡ l3 ++ when (not (is_number a.f.cro)) (ascii "020", 521) = tested l3 l4 _ _ _ (sym (ap not c.is_none.ensures ∙ not-not _)) c.with-fourth.ensures.0 in
    let h5 = c.date_errors-fifth.ensures.0 in
    let h6 : l6 ≡ l5 ++ when (not (is_time a.f.time)) (ascii "601", 503) = tested l5 l6 _ _ _ (ap not c.is_time.ensures) c.with-sixth.ensures.0 in
    let h7 : l7 ≡ l6 ++ when (not (is_number a.f.check)) (ascii "010", 908) = tested l6 l7 _ _ _ (sym (ap not c.is_none-2.ensures ∙ not-not _)) c.with-seventh.ensures.0 in
    let h8 : l8 ≡ l7 ++ when (not (same_text (bytes_of Identifier m) a.t.identifier)) (ascii "6G0", 303) = tested l7 l8 _ _ _ c.other_identifier.ensures c.with.ensures.0 in
    let up_to2 : (codes : List ℕ) → a.admitted ≡ any (eqb (code_in a.f.sender)) codes → l2 ≡ when (not (same_text (bytes_of MessageType m) (ascii "6G1"))) (ascii "001", 900) ++ sender_errors codes a.f.sender
    = λ codes k. added [] l1 l2 _ _ h1 (c.sender_errors-second.ensures.0 codes k) in
    let n0 = c.with.ensures.1 in
    let n1 = c.with-seventh.ensures.1 in
    let n2 = c.with-sixth.ensures.1 in
    let n3 = c.date_errors-fifth.ensures.1 in
    let n4 = c.with-fourth.ensures.1 in
    let n5 = c.with-third.ensures.1 in
    let n6 = c.sender_errors-second.ensures.1 in
    let n7 = c.with-first.ensures.1 in
    let n8 = c.none.ensures.1 in
    (λ admission k. added [] l7 l8 _ _ (added [] l6 l7 _ _ (added [] l5 l6 _ _ (added [] l4 l5 _ _ (added [] l3 l4 _ _ (added [] l2 l3 _ _ (up_to2 admission.codes k) h3) h4) h5) h6) h7) h8, omega arith)
