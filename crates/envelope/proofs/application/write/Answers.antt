-- `envelope::application::write` meets its contract: the refusals in their order, then both parts. Assumes nothing.
use borrow.Author.Rules.{rules}
use borrow.Author.Tests.{lt-ltb, le-ltb}
use mathlib.Core.Path.{◌≡◌}
use mathlib.Core.Bool.{Bool, true, false, ◌&&◌}
use mathlib.Core.List.{List}
use Prim.Native.Nat.{ℕ, ◌+◌, zero-le}
use native.Mathlib.Omega.{arith}
use lib.ListN.{length}
use Rattle.laws.proofs.Arrays.{length_mapped}
use Rattle.laws.proofs.Tests.{and_left, and_right}
use Rattle.output.proofs.Output.{then, said, from_start}
use Rattle.addresses.specs.Addresses.{address_length}
use Rattle.addresses.proofs.ReturnTrip.{at_most_14}
use Rattle.envelope.specs.declared.application.Application.{Application}
use Rattle.envelope.specs.Refusals.{first_holding}
use Rattle.envelope.specs.Application.{numbers_fit, texts_fit, written, write}
use Rattle.envelope.proofs.Writing.{both_parts, length-written, length_kind, length-identifier, length_name}
use Rattle.envelope.proofs.application.write.Goals as goal

module _ (a : Application) (kind identifier name : List ℕ) where
  abbrev all_fit : Bool
  all_fit = numbers_fit a && texts_fit kind identifier name

  -- both tests, as the code makes them
  tested : (p q b : Bool) → p ≡ numbers_fit a → q ≡ texts_fit kind identifier name → p && q ≡ b → all_fit ≡ b
  tested p q b e f h = rw (← e, ← f) h

  numbers : all_fit ≡ true → numbers_fit a ≡ true
  numbers fit = and_left (numbers_fit a) (texts_fit kind identifier name) fit

  texts : all_fit ≡ true → (length kind ≡ 3) × (length identifier ≡ 11) × (length name ≡ 15)
  texts fit =
      let t = and_right (numbers_fit a) (texts_fit kind identifier name) fit in
      (length_kind kind identifier name t, length-identifier kind identifier name t, length_name kind identifier name t)

  long : all_fit ≡ true → length a.rates ≡ 10 → length a.amounts ≡ 10 → length (written a kind identifier name) ≡ 329 + address_length a.sender + address_length a.recipient
  long fit rates amounts = let t = texts fit in length-written a kind identifier name t.0 t.1 t.2 rates amounts

pub returns-then-not-numbers_fit-texts_fit : goal.returns-then-not-numbers_fit-texts_fit
unfolding write first_holding
returns-then-not-numbers_fit-texts_fit c =
    let a = c.args in
    rw (tested a.a a.kind.now a.identifier.now a.name.now _ _ false c.numbers_fit.ensures c.texts_fit.ensures c.if-not-numbers_fit-texts_fit.true)

pub overflow_add-address_length : goal.overflow_add-address_length
overflow_add-address_length c = omega (arith, c.address_length.ensures, at_most_14 c.args.a.sender)

pub overflow_add-address_length-2 : goal.overflow_add-address_length-2
overflow_add-address_length-2 c = omega (arith, c.address_length.ensures, at_most_14 c.args.a.sender, c.address_length-2.ensures, at_most_14 c.args.a.recipient)

pub returns-then-space-address_length : goal.returns-then-space-address_length
unfolding write first_holding
returns-then-space-address_length c =
    let a = c.args in
    let fit = tested a.a a.kind.now a.identifier.now a.name.now _ _ true c.numbers_fit.ensures c.texts_fit.ensures c.if-not-numbers_fit-texts_fit.false in
    let l = long a.a a.kind.now a.identifier.now a.name.now fit (search (rules, length_mapped)) (search (rules, length_mapped)) in
    rw (fit, lt-ltb (length a.space.now) (length (written a.a a.kind.now a.identifier.now a.name.now)) (omega (arith, l, c.address_length.ensures, c.address_length-2.ensures, c.if-space-address_length.true)))

pub put_first-half-requires : goal.put_first-half-requires
put_first-half-requires c =
    let a = c.args in
    let fit = tested a.a a.kind.now a.identifier.now a.name.now _ _ true c.numbers_fit.ensures c.texts_fit.ensures c.if-not-numbers_fit-texts_fit.false in
    let t = texts a.a a.kind.now a.identifier.now a.name.now fit in
    (numbers a.a a.kind.now a.identifier.now a.name.now fit, t.0, omega (arith, c.address_length.ensures, c.address_length-2.ensures, c.if-space-address_length.false))

pub put_last-requires : goal.put_last-requires
put_last-requires c =
    let a = c.args in
    let fit = tested a.a a.kind.now a.identifier.now a.name.now _ _ true c.numbers_fit.ensures c.texts_fit.ensures c.if-not-numbers_fit-texts_fit.false in
    let t = texts a.a a.kind.now a.identifier.now a.name.now fit in
    (numbers a.a a.kind.now a.identifier.now a.name.now fit, t.1, t.2, omega (arith, c.put_first-half.ensures.1, c.address_length.ensures, c.address_length-2.ensures, c.if-space-address_length.false))

pub returns : goal.returns
unfolding write first_holding
returns c =
    let a = c.args in
    let fit = tested a.a a.kind.now a.identifier.now a.name.now _ _ true c.numbers_fit.ensures c.texts_fit.ensures c.if-not-numbers_fit-texts_fit.false in
    let l = long a.a a.kind.now a.identifier.now a.name.now fit (search (rules, length_mapped)) (search (rules, length_mapped)) in
    let w = said (both_parts a.a a.kind.now a.identifier.now a.name.now) (then zero-le c.put_first-half.ensures.0 c.put_last.ensures) in
    rw (fit, le-ltb (length a.space.now) (length (written a.a a.kind.now a.identifier.now a.name.now)) (omega (arith, l, c.address_length.ensures, c.address_length-2.ensures, c.if-space-address_length.false)), w.bytes, from_start)
